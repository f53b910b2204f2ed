-- What a write answers, from what the functions below it answer.
use Rattle.std.proofs.Common.{◌≡◌, ◌≤◌, ◌<◌, ◌⊎◌, refl, sym, ap, ◌∙◌, subst, inl, inr, ℕ, ◌+◌, ◌/◌, Bool, true, false, nat_le, if◌then◌else◌, List, length, replicate, Some, None, Result, Ok, Err, IfOk, IfErr, arith}
use Rattle.std.specs.Prelude.{max}
use Rattle.std.proofs.lemmas.List.{length-replicate}
use Rattle.jfs_super.specs.Geometry.{file_limit_of}
use Rattle.jfs_bits.specs.declared.descriptor.Moment.{Moment}
use Rattle.jfs_bits.specs.declared.extent.Xad.{Xad}
use Rattle.jfs_bits.specs.declared.rule.Rule.{Rule}
use Rattle.jfs_imap.specs.Inodes.{Inodes}
use Rattle.jfs_bmap.specs.States.{Blocks, unowned_count}
use Rattle.jfs_tree.specs.Fresh.{blocks_of}
use Rattle.jfs_tree.specs.Spells.{no_page}
use Rattle.jfs_xtree.specs.Spells.{spells_extents, tree_error}
use Rattle.jfs_xtree.specs.declared.error.XtError.{XtError}
use Rattle.jfs_xtree.specs.declared.error.XtError.TheVariants.{View, Bad}
use Rattle.jfs_ranges.specs.declared.view.ViewError.{ViewError}
use Rattle.jfs_ranges.specs.declared.view.ViewError.TheVariants as view
use Rattle.jfs_put_range.specs.Call.{RefusesOnlyDeep}
use Rattle.jfs_plain.specs.Tree.{Tree, Found, walk, root, and_then, found}
use Rattle.jfs_plain.specs.Step.{Room, Outcome, is_short, need_of_bytes, if_file, size_after, within_limit, refuse, file, write}
use Rattle.jfs_plain.specs.Moves.{changed, sized, filled}
use Rattle.jfs_plain.specs.CallStep.{LeavesRest, writes_over_in}
use Rattle.jfs_plain.specs.declared.call.Call.TheVariants as calls
use Rattle.jfs_plain.specs.declared.refusal.Refusal.{Refusal}
use Rattle.jfs_plain.specs.declared.refusal.Refusal.TheVariants.{Damaged, NoSpace}
use Rattle.jfs_plain.specs.declared.reply.Reply.TheVariants.{Done}
use Rattle.jfs_link.specs.meaning.specs.Consistent.{IsConsistent}
use Rattle.jfs_link.specs.meaning.specs.Readers.{readers, root_of}
use Rattle.jfs_link.specs.meaning.specs.Room.{room_on}
use Rattle.jfs_link.specs.meaning.specs.Tree.{tree_on}
use Rattle.jfs_file_blocks.specs.room.specs.Laws.{blocks_in}
use Rattle.jfs_file_blocks.specs.claim.specs.Look.{space_for, TellsSpace}
use Rattle.jfs_file_blocks.specs.claim.proofs.Looks.{space_told}
use Rattle.jfs_read.specs.way.specs.Answer.{is_open, at_root, Follows}
use Rattle.jfs_read.specs.way.specs.Volume.{volume_of, PlacesWithin}
use Rattle.jfs_read.specs.way.specs.Walk.{IsHeld, IsShown, IsThere, IsOf, IfConsistent, tree_in}
use Rattle.jfs_read.specs.way.specs.Way.{path_of}
use Rattle.jfs_read.specs.way.specs.declared.object.Held.{Held}
use Rattle.jfs_read.specs.Read.{extents_refusal}
use Rattle.jfs_write_pages.specs.data_steps.specs.After.{AreWholePages, with_data}
use Rattle.jfs_write_pages.specs.data_steps.proofs.Held as held_file
use Rattle.jfs_write_pages.specs.Spots.{placed, extents_for}
use Rattle.jfs_write.specs.Look.{why_kept, or_damage, spelled_at, FitsBytes, spots_at}
use Rattle.jfs_write.specs.Call.{LacksPlace, WritesAt, StoppedAt, InRoom, IsDeep, StepsInRoom, StartsWrite, StartsFill}
use Rattle.jfs_write.specs.Tree.{RefusesExtents}
use Rattle.jfs_write.specs.declared.answer.Stop.{Stop}
use Rattle.jfs_write.specs.declared.answer.Stop.TheVariants.{Refused, NeedsLog}
use Rattle.jfs_write.specs.declared.make.Written.{Written}
use Rattle.jfs_write.proofs.Grown.{spare}
use Rattle.jfs_write.proofs.Done.{Fits, allowed_fits, refused, short, goes, set_to, write_done, write_starts}

-- ---- the room

pub few_bytes : (limit log_pages : ℕ) → limit ≡ file_limit_of log_pages → limit ≤ 268435456
few_bytes limit log_pages e = by (nat_le 1024 log_pages) e
  where
    by : (b : Bool) → limit ≡ (if b then 268435456 else 33554432) → limit ≤ 268435456
    by true e = omega (arith, e)
    by false e = omega (arith, e)

module _ (blocks : ℕ) (pages : ℕ → List ℕ) (map : Blocks) (inodes : Inodes) (many : blocks_in map ≡ blocks) (area : ℕ → ℕ) (con : IsConsistent (readers blocks) (volume_of pages area map inodes)) (log_pages : ℕ) where
  abbrev pub room : Room
  room = room_on (readers blocks) (volume_of pages area map inodes) blocks log_pages

  -- what is told of space is the room's
  told_space : (need : ℕ) → TellsSpace room need (space_for (unowned_count map) need)
  told_space need = subst (λ (k : ℕ). IsConsistent (readers k) (volume_of pages area map inodes) → TellsSpace (room_on (readers k) (volume_of pages area map inodes) k log_pages) need (space_for (unowned_count map) need)) many
      (λ c. space_told map need pages area inodes c.sound.agrees log_pages) con

  pub spacious : (need : ℕ) → space_for (unowned_count map) need ≡ Ok tt → is_short room need ≡ false
  spacious need h = subst (TellsSpace room need) h (told_space need)

  pub too_short : (need : ℕ) (why : Refusal) → space_for (unowned_count map) need ≡ Err why → (is_short room need ≡ true) × (why ≡ NoSpace room.free)
  too_short need why h = subst (TellsSpace room need) h (told_space need)

-- ---- what a tree spells

pub spelled_ok : (blocks : ℕ) (pages : ℕ → List ℕ) (at : Held) (es : List Xad) → spelled_at blocks pages at ≡ Ok es → spells_extents blocks pages (root_of at.inode) ≡ Ok es
spelled_ok blocks pages at es h = by (spells_extents blocks pages (root_of at.inode)) h
  where
    by : (x : Result (List Xad) (ℕ × Rule)) → or_damage at.page x ≡ Ok es → x ≡ Ok es
    by (Ok ys) h = ap (λ (zs : List Xad). Ok zs) (same ys h)
      where
        same : (ys : List Xad) → ◌≡◌ {A = Result (List Xad) Refusal} (Ok ys) (Ok es) → ys ≡ es
        same ys h = cc (h)
    by (Err bad) h = absurd (cc (h))

pub never_bad : (blocks : ℕ) (pages : ℕ → List ℕ) (at : Held) (es : List Xad) (why : Refusal) → spells_extents blocks pages (root_of at.inode) ≡ Ok es → spelled_at blocks pages at ≡ Err why → ⊥
never_bad blocks pages at es why h e = cc (sym (ap (or_damage at.page) h) ∙ e)

-- ---- a walk that is refused

pub walk_refused : (room : Room) (t : Tree) (path : List (List ℕ)) (offset : ℕ) (bytes : List ℕ) (now : Moment) (why : Refusal) → walk t root path ≡ Err why → write room t path offset bytes now ≡ Err why
walk_refused room t path offset bytes now why h = ap (λ (x : Result ℕ Refusal). and_then (and_then (and_then x (λ n. found n (t.nodes n))) if_file) (λ o. within_limit (size_after room.limit o.node.size (offset + length bytes)) (λ size.
    refuse (is_short room (need_of_bytes offset (length bytes))) (NoSpace room.free) (Ok (Done, changed o.inode (sized size now) (filled o.inode offset bytes t)))))) h

-- ---- a file that a call holds

module _ (blocks : ℕ) (pages : ℕ → List ℕ) (whole : (b : ℕ) → b < blocks → length (pages b) ≡ 4096) (map : Blocks) (inodes : Inodes) (at : Held) (held : IsHeld blocks inodes at) (shown : IsShown pages at) (path : List (List ℕ))
    (follows : IfConsistent blocks pages inodes (λ t. Follows {X = ℕ} {Y = Held} (IsOf t) (walk t root path) (Ok at))) (offset limit : ℕ) where
  module _ (within : PlacesWithin blocks inodes) (area : ℕ → ℕ) (con : IsConsistent (readers blocks) (volume_of pages area map inodes)) where
    pub some : IsThere (tree_in blocks pages area map inodes) at.number
    some = let f = follows within area map con in subst (IsThere (tree_in blocks pages area map inodes)) f.2.0 f.2.1

    pub walked : walk (tree_in blocks pages area map inodes) root path ≡ Ok at.number
    walked = let f = follows within area map con in f.1 ∙ ap (λ (n : ℕ). Ok n) f.2.0

  pub kept_refused : (why : Refusal) (count : ℕ) → why_kept at.inode (offset + count) limit ≡ Some why → InRoom blocks pages map inodes limit (λ room t. (bytes : List ℕ) → length bytes ≡ count → (now : Moment) → (write room t path offset bytes now ≡ Err why) ⊎ (is_open why ≡ true))
  kept_refused why count h many within area con log_pages is bytes size now = inl (refused blocks pages whole area map inodes con at held shown (some within area con) offset bytes now path (walked within area con) limit (room blocks pages map inodes many area con log_pages)
      (sym is) (few_bytes limit log_pages is) why (subst (λ (k : ℕ). why_kept at.inode (offset + k) limit ≡ Some why) (sym size) h))

  pub space_refused : (why : Refusal) (count : ℕ) → why_kept at.inode (offset + count) limit ≡ None → space_for (unowned_count map) (need_of_bytes offset count) ≡ Err why
      → InRoom blocks pages map inodes limit (λ room t. (bytes : List ℕ) → length bytes ≡ count → (now : Moment) → (write room t path offset bytes now ≡ Err why) ⊎ (is_open why ≡ true))
  space_refused why count allowed h many within area con log_pages is bytes size now =
      let s = too_short blocks pages map inodes many area con log_pages (need_of_bytes offset (length bytes)) why (subst (λ (k : ℕ). space_for (unowned_count map) (need_of_bytes offset k) ≡ Err why) (sym size) h) in
      inl (short blocks pages whole area map inodes con at held shown (some within area con) offset bytes now path (walked within area con) limit (room blocks pages map inodes many area con log_pages)
      (sym is) (few_bytes limit log_pages is) (allowed_fits at.inode (offset + length bytes) limit (subst (λ (k : ℕ). why_kept at.inode (offset + k) limit ≡ None) (sym size) allowed)) s.0 ∙ ap (λ (x : Refusal). Err x) (sym s.1))

  module _ (bytes : List ℕ) (now : Moment) (fits : FitsBytes offset (length bytes)) (walked_to : path_of blocks pages inodes path ≡ Ok at) (allowed : why_kept at.inode (offset + length bytes) limit ≡ None)
      (space : space_for (unowned_count map) (need_of_bytes offset (length bytes)) ≡ Ok tt) where
    abbrev plain : Room → Tree → Outcome
    plain room t = write room t path offset bytes now

    fit : Fits at.inode (offset + length bytes) limit
    fit = allowed_fits at.inode (offset + length bytes) limit allowed

    module _ (many : blocks_in map ≡ blocks) (within : PlacesWithin blocks inodes) (area : ℕ → ℕ) (con : IsConsistent (readers blocks) (volume_of pages area map inodes)) where
      spelled_here : (es : List Xad) → spelled_at blocks pages at ≡ Ok es → spells_extents blocks pages (root_of at.inode) ≡ Ok es
      spelled_here es h = spelled_ok blocks pages at es h

      -- its tree takes the extents, or it is too deep
      clashes : (es : List Xad) → spelled_at blocks pages at ≡ Ok es → (why : Refusal) → LacksPlace blocks pages at offset es (spots_at es offset (length bytes)) map why → (is_open why ≡ true) ⊎ IsDeep blocks pages inodes path why
      clashes es h why lacks = by lacks.refused
        where
          by_error : (e : XtError) → why ≡ extents_refusal at.page e → RefusesOnlyDeep blocks pages (root_of at.inode) (blocks_of lacks.free) (tree_error e) → (is_open why ≡ true) ⊎ IsDeep blocks pages inodes path why
          by_error (View e) is deep = inl (ap is_open is ∙ opens e)
            where
              opens : (e : ViewError) → is_open (extents_refusal at.page (View e)) ≡ true
              opens (view.Read fault) = refl
              opens view.Memory = refl
          by_error (Bad page rule) is deep =
              let ninth = deep es (spelled_here es h) (spare blocks pages whole area map inodes many con at held shown (some within area con) fit.regular es (spelled_here es h) offset bytes fits lacks.runs lacks.free lacks.may) in
              inr (at, walked_to, is ∙ ap (λ (k : ℕ). Damaged (at_root at.page k) rule) ninth.0 ∙ ap (λ (x : Rule). Damaged (at_root at.page no_page) x) ninth.1, (refl, refl, ninth.2, ninth.3))

          by : RefusesExtents blocks pages at.page (extents_for (placed (offset / 4096) (spots_at es offset (length bytes)) (blocks_of lacks.runs))) (root_of at.inode) (blocks_of lacks.free) why → (is_open why ≡ true) ⊎ IsDeep blocks pages inodes path why
          by (inl o) = inl o
          by (inr (e, is, deep, way)) = by_error e is deep

      module _ (log_pages : ℕ) (is : limit ≡ file_limit_of log_pages) where
        abbrev here : Room
        here = room blocks pages map inodes many area con log_pages

        not_short : is_short here (need_of_bytes offset (length bytes)) ≡ false
        not_short = spacious blocks pages map inodes many area con log_pages (need_of_bytes offset (length bytes)) space

        it_goes : write here (tree_in blocks pages area map inodes) path offset bytes now ≡ Ok (Done, set_to blocks pages whole area map inodes con at held shown (some within area con) offset bytes now path (walked within area con) (max at.inode.size (offset + length bytes)))
        it_goes = goes blocks pages whole area map inodes con at held shown (some within area con) offset bytes now path (walked within area con) limit here (sym is) (few_bytes limit log_pages is) fit not_short

    pub steps : (after : Blocks) (result : Result Written Stop) → IfOk result (WritesAt blocks pages at at.inode.size offset bytes now map after) → IfErr result (StoppedAt blocks pages at offset (length bytes) map)
        → IfOk result (λ out. AreWholePages out.blocks) → StepsInRoom blocks pages map inodes limit path plain result
    steps after (Ok out) w stopped full = λ many within area con log_pages is.
        write_done blocks pages whole area map inodes con at held shown (some within area con) offset bytes now path (walked within area con) fit.no_names fit.regular many
        w.es (spelled_ok blocks pages at w.es w.spelled) fits w.made.runs w.made.free w.made.may w.made.left out w.made.makes full (here many within area con log_pages is) (it_goes many within area con log_pages is)
    steps after (Err (Refused why)) w (inl o) full = λ many within area con log_pages is. inr (inl o)
    steps after (Err (Refused why)) w (inr (inl bad)) full = λ many within area con log_pages is.
        absurd (never_bad blocks pages at (held_file.es blocks pages whole area map inodes con at held shown (some within area con)) why (held_file.spelled_es blocks pages whole area map inodes con at held shown (some within area con) fit.regular) bad)
    steps after (Err (Refused why)) w (inr (inr (es, h, inl o))) full = λ many within area con log_pages is. inr (inl o)
    steps after (Err (Refused why)) w (inr (inr (es, h, inr lacks))) full = λ many within area con log_pages is. inr (clashes many within area con es h why lacks)
    steps after (Err NeedsLog) w stopped full = λ many within area con log_pages is. (_, it_goes many within area con log_pages is)

    pub starts : (after : Blocks) (result : Result Written Stop) → IfOk result (WritesAt blocks pages at at.inode.size offset bytes now map after) → IfOk result (λ out. AreWholePages out.blocks) → IfOk result (StartsWrite blocks pages map inodes path offset bytes)
    starts after (Ok out) w full = λ many within area con.
        write_starts blocks pages whole area map inodes con at held shown (some within area con) offset bytes now path (walked within area con) fit.no_names fit.regular many
        w.es (spelled_ok blocks pages at w.es w.spelled) fits w.made.runs w.made.free w.made.may w.made.left out w.made.makes full
    starts after (Err why) w full = tt

-- ---- the same byte so many times

as_fill : (t u : Tree) (path : List (List ℕ)) (offset : ℕ) (new : List ℕ) (byte : ℕ) → LeavesRest t (calls.Write path offset new) u → LeavesRest t (calls.Fill path offset (length new) byte) u
as_fill t u path offset new byte h = record { nodes = h.nodes; bytes = λ n i e. h.bytes n i (sym (same n i (file t path)) ∙ e) }
  where
    same : (n i : ℕ) (x : Result Found Refusal) → writes_over_in x (calls.Fill path offset (length new) byte) n i ≡ writes_over_in x (calls.Write path offset new) n i
    same n i (Ok o) = refl
    same n i (Err why) = refl

pub fill_starts : (blocks : ℕ) (pages : ℕ → List ℕ) (map : Blocks) (inodes : Inodes) (path : List (List ℕ)) (offset count byte : ℕ) (result : Result Written Stop)
    → IfOk result (StartsWrite blocks pages map inodes path offset (replicate count byte)) → IfOk result (StartsFill blocks pages map inodes path offset count byte)
fill_starts blocks pages map inodes path offset count byte (Ok out) h = λ many within area con. let s = h many within area con in record {
  leaves = subst (λ (k : ℕ). LeavesRest (tree_in blocks pages area map inodes) (calls.Fill path offset k byte) (tree_on (readers blocks) (with_data out.blocks (volume_of pages area map inodes)))) (length-replicate {A = ℕ} count byte)
      (as_fill (tree_in blocks pages area map inodes) (tree_on (readers blocks) (with_data out.blocks (volume_of pages area map inodes))) path offset (replicate count byte) byte s.leaves);
  consistent = s.consistent;
  own = s.own;
  once = s.once;
  fair = s.fair;
}
fill_starts blocks pages map inodes path offset count byte (Err why) h = tt
