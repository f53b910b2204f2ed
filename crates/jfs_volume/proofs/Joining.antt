-- An entry that changes nothing joins.
use Rattle.std.proofs.Common.{◌≡◌, ◌≤◌, ◌+◌, ℕ, zero, suc, Bool, false, List, [], ◌∷◌, ◌++◌, length, map, drop, get_or, slice_get, Some, refl, sym, ap, ◌∙◌, inl, subst, arith}
use Rattle.std.proofs.lemmas.List.{append-nil, map-append, length-append, drop-append-le, ext_get_or}
use Rattle.std.specs.List.{AllByRecursion}
use Rattle.jfs_bits.specs.declared.descriptor.Moment.{Moment}
use Rattle.jfs_disk.specs.Image.{Image}
use Rattle.jfs_bmap.specs.Set.{each_below}
use Rattle.jfs_bmap.specs.States.{Blocks, Owned, state_of}
use Rattle.jfs_bmap.proofs.Views.{length-each_below, each_below-at}
use Rattle.jfs_halves.specs.crash_core.specs.Core.{Block, no_block}
use Rattle.jfs_halves.specs.crash_core.specs.Image.{pages_after}
use Rattle.jfs_halves.specs.crash_core.specs.Step.{marked}
use Rattle.jfs_plain.specs.declared.call.Entry.{Entry}
use Rattle.jfs_plain.specs.declared.call.Request.{Request}
use Rattle.jfs_plain.specs.declared.reply.Reply.{Reply}
use Rattle.jfs_halves.specs.declared.freed.FreedPage.{FreedPage}
use Rattle.jfs_halves.specs.Entry.{Happened, entry_of}
use Rattle.jfs_halves.specs.Marks.{map_after}
use Rattle.jfs_halves.specs.Half.{VolumeHalf, Waiting}
use Rattle.jfs_halves.specs.Change.{Enters, MayEnter, SameStates}
use Rattle.jfs_halves.specs.Parts.{Parts, Text, StandsFor, IsTextOf, IsFreed}
use Rattle.jfs_halves.specs.Moves.{Moves}
use Rattle.jfs_volume.specs.Join.{unchanged, with_entry}
use Rattle.jfs_volume.proofs.Stand.{one}

pages_after-none : (n : ℕ) (image : Image) → pages_after n [] image ≡ image
pages_after-none n [] = refl
pages_after-none n (page ∷ pages) = ap (λ (rest : Image). page ∷ rest) (pages_after-none (suc n) pages)

marked-none : (n p : ℕ) (blocks : List Block) → marked (λ q. false) n p blocks ≡ blocks
marked-none n p [] = refl
marked-none n p (block ∷ blocks) = ap (λ (rest : List Block). block ∷ rest) (marked-none n (suc p) blocks)

same-map : (n : ℕ) (m : Blocks) → SameStates m (map_after n [] m)
same-map n m = record {
  states = ext_get_or Owned m.states (each_below (length m.states) (λ b. state_of m b)) (sym (length-each_below (length m.states) (λ b. state_of m b)))
      (λ b h. sym (each_below-at (length m.states) (λ (c : ℕ). state_of m c) b Owned h));
  agsize = refl;
}

pub may_enter : (client line : ℕ) (request : Request) (now : Moment) (reply : Reply) (half : VolumeHalf) → MayEnter half (unchanged client line request now reply half)
may_enter client line request now reply half = record {
  runs = inl refl;
  pages = sym (pages_after-none 0 half.shown.pages);
  map = same-map (suc (length half.history)) half.shown.map;
  takes_free = λ b e. absurd (cc);
  logged = λ e. refl;
}

slice_get-append : {A : Type 0} (xs ys : List A) (i : ℕ) (x : A) → slice_get xs i ≡ Some x → slice_get (xs ++ ys) i ≡ Some x
slice_get-append [] ys i x e = absurd (cc)
slice_get-append (y ∷ xs) ys zero x e = e
slice_get-append (y ∷ xs) ys (suc i) x e = slice_get-append xs ys i x e

pub freed-later : (history more : List Happened) (freed : List FreedPage) → AllByRecursion (IsFreed history) freed → AllByRecursion (IsFreed (history ++ more)) freed
freed-later history more [] all = tt
freed-later history more (f ∷ freed) all = ((all.0.0, all.0.1, all.0.2, slice_get-append history more all.0.0 all.0.1 all.0.3, all.0.4), freed-later history more freed all.1)

pub entries-later : (handed : ℕ) (history : List Happened) (h : Happened) → handed ≤ length history → map entry_of (drop handed (history ++ h ∷ [])) ≡ map entry_of (drop handed history) ++ entry_of h ∷ []
entries-later handed history h few = ap (λ (hs : List Happened). map entry_of hs) (drop-append-le handed history (h ∷ []) few) ∙ map-append entry_of (drop handed history) (h ∷ [])

text-later : (n : ℕ) (w : Waiting) (text : Text) → IsTextOf n w text → IsTextOf (suc n) (record w { items = w.items ++ [] }) (record text { last = suc n })
text-later n w text is = rw (append-nil w.items) (record { ring = is.ring; place = is.place; sync = is.sync; bytes = is.bytes; ends = is.ends; last = refl })

pub joins_moves : (seen asked : Bool) (client line : ℕ) (request : Request) (now : Moment) (reply : Reply) (p : Parts) (half : VolumeHalf) → StandsFor seen asked p half →
    Moves seen asked p (with_entry (record { client = client; line = line; call = request.call; lazy = request.lazy; reply = reply }) p) half (Enters (unchanged client line request now reply half) ∷ [])
joins_moves seen asked client line request now reply p half s =
    let h = unchanged client line request now reply half in
    let entry : Entry = record { client = client; line = line; call = request.call; lazy = request.lazy; reply = reply } in
    let n = suc (length half.history) in
    let longer : length (half.history ++ h ∷ []) ≡ n = length-append half.history (h ∷ []) ∙ omega arith in
    let last_is : n ≡ p.appended + 1 = omega (arith, s.appended) in
    let blocks : marked (λ q. false) n 0 half.blocks ≡ half.blocks = marked-none n 0 half.blocks in
    one seen asked p (with_entry entry p) half (Enters h) (may_enter client line request now reply half)
    (record {
      appended = omega (arith, s.appended, longer);
      taken = s.taken;
      told = s.told;
      points = s.points;
      known = s.known;
      number = ap (λ (bs : List Block). length bs) blocks ∙ s.number;
      halted = s.halted;
      dirty = λ m. s.dirty m ∙ ap (λ (bs : List Block). (get_or bs m no_block).dirty) (sym blocks);
      block_map = s.block_map;
      inodes = s.inodes;
      handed = omega (arith, s.handed, longer);
      entries = ap (λ (es : List Entry). es ++ entry ∷ []) s.entries ∙ sym (entries-later half.handed half.history h s.handed);
      text = subst (λ (k : ℕ). IsTextOf (length (half.history ++ h ∷ [])) (record half.waiting { items = half.waiting.items ++ [] }) (record p.text { last = k })) last_is (rw longer (text-later (length half.history) half.waiting p.text s.text));
      freed = freed-later half.history (h ∷ []) p.freed s.freed;
      view = s.view;
      disk = λ t m k. s.disk t m (omega (arith, k, ap (λ (bs : List Block). length bs) blocks)) ∙ ap (λ (bs : List Block). (get_or bs m no_block).pages.seen) (sym blocks);
      low = λ t k. s.low t k ∙ ap (λ (bs : List Block). map (λ (b : Block). b.pages) bs) (sym blocks);
    })
    (λ t k. sym (append-nil p.past))
