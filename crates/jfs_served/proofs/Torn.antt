-- A call whose data was put in part leaves all objects, and all bytes but those that it writes over.
use Rattle.std.proofs.Common.{◌≡◌, ◌⊎◌, ◌<◌, ◌≤◌, ◌+◌, ◌-◌, ◌*◌, ◌/◌, ◌%◌, ◌^◌, ◌==◌, ◌||◌, ◌&&◌, refl, sym, ap, ap₂, ◌∙◌, subst, ℕ, Bool, true, false, nat_lt, if◌then◌else◌, List, [], ◌∷◌, ◌++◌, length, take, drop, get_or, map, inl, inr, Option, Some, None, Ok, arith}
use Rattle.std.specs.List.{AllByRecursion}
use Rattle.std.proofs.lemmas.Bool.{cases_lt, eqb-true}
use Rattle.std.proofs.lemmas.List.{get_or_append_left, get_or-append_right, get_or-take, get_or-drop, length-take-le}
use Rattle.jfs_bits.specs.declared.descriptor.Moment.{Moment}
use Rattle.jfs_bits.specs.declared.extent.Xad.{Xad}
use Rattle.jfs_disk.specs.Crash.{torn}
use Rattle.jfs_disk.specs.Image.{Image, page_of}
use Rattle.jfs_disk.specs.declared.disk.Fault.{Fault}
use Rattle.jfs_ranges.specs.declared.edit.Edit.{Edit}
use Rattle.jfs_shown.specs.imap.specs.Inodes.{Inodes, is_used}
use Rattle.jfs_shown.specs.bmap.specs.States.{BlockState, Free, put_state, state_of, is_owned_state}
use Rattle.jfs_shown.specs.map_files.specs.declared.maps.Maps.{Maps}
use Rattle.jfs_shown.specs.map_files.specs.declared.map_file.MapFiles.{MapFiles}
use Rattle.jfs_shown.specs.objects.specs.Contents.{block_of, bytes_at}
use Rattle.jfs_shown.specs.objects.specs.Image.{extent_place}
use Rattle.jfs_shown.specs.objects.specs.Objects.{Object, objects, spelled, listed}
use Rattle.jfs_shown.specs.objects.specs.Owners.{is_data}
use Rattle.jfs_shown.specs.objects.specs.Readers.{Readers}
use Rattle.jfs_shown.specs.objects.specs.Volume.{Volume}
use Rattle.jfs_shown.specs.objects.proofs.Owned.{owned_once}
use Rattle.jfs_shown.specs.objects.proofs.Sums.{put_here, put_other, eq_or_not}
use Rattle.jfs_shown.specs.meaning.specs.Contents.{byte_of}
use Rattle.jfs_shown.specs.meaning.specs.Readers.{readers}
use Rattle.jfs_shown.specs.meaning.specs.Tree.{tree_on}
use Rattle.jfs_shown.specs.meaning.specs.Consistent.{IsConsistent}
use Rattle.jfs_shown.specs.way.specs.Volume.{PlacesWithin}
use Rattle.jfs_alike.specs.Alike.{AreAlike, MeanTheSame}
use Rattle.jfs_alike.proofs.Alike.{alike_law}
use Rattle.jfs_entered.specs.Marked.{HasBits}
use Rattle.jfs_call.specs.files.specs.Written.{StartsWith}
use Rattle.jfs_call.specs.files.specs.declared.outcome.FileOutcome.TheVariants.{Changed}
use Rattle.jfs_call.specs.volume.specs.Called.{GivesBack}
use Rattle.jfs_call.specs.volume.specs.Data.{IsPartly, IsPartlyPut}
use Rattle.jfs_call.specs.volume.specs.Join.{with_entry}
use Rattle.jfs_call.specs.volume.specs.MapsHome.{HoldsNone}
use Rattle.jfs_call.specs.volume.specs.Runs.{taken_in}
use Rattle.jfs_call.specs.volume.specs.data_steps.specs.After.{is_put, page_put, put_data, with_data}
use Rattle.jfs_call.specs.volume.specs.data_steps.specs.File.{bytes_held}
use Rattle.jfs_call.specs.volume.specs.data_steps.specs.Laws.{MayPut, PutsOwn, IsFilePut}
use Rattle.jfs_call.specs.volume.specs.data_steps.specs.declared.pages.DataPage.{DataPage}
use Rattle.jfs_call.specs.volume.specs.data_steps.proofs.Files.{file_before}
use Rattle.jfs_call.specs.volume.specs.data_steps.proofs.Putting.{put_off, put_on, put_whole}
use Rattle.jfs_call.specs.halves.specs.Parts.{Parts}
use Rattle.jfs_call.specs.halves.specs.declared.freed.FreedPage.{FreedPage}
use Rattle.jfs_call.specs.volume.specs.pages.specs.Device.{IsFault}
use Rattle.jfs_call.specs.plain.specs.CallStep.{written_file, writes_over_in, LeavesRest}
use Rattle.jfs_call.specs.plain.specs.Tree.{Tree}
use Rattle.jfs_call.specs.plain.specs.declared.call.Entry.{Entry}
use Rattle.jfs_call.specs.plain.specs.declared.call.Request.{Request}
use Rattle.jfs_call.specs.plain.specs.declared.refusal.Refusal.TheVariants.{IoFault}
use Rattle.jfs_call.specs.plain.specs.declared.reply.Reply.TheVariants.{Refused}
use Rattle.jfs_served.specs.Holds.{blocks_at, volume_at, tree_at, IsBusyPage, MayServe}
use Rattle.jfs_served.specs.Follows.{tears}
use Rattle.jfs_served.specs.Step.{IsAsked, IsAnswer, TakesStep}
use Rattle.jfs_served.specs.Torn.{TornLaw}
use Rattle.jfs_served.proofs.Files.{area_used, data_held, unchanged, files_stay}
use Rattle.jfs_served.proofs.Given.{all_busy, back_at, back_size, state_by}
use Rattle.jfs_served.proofs.Keeps.{between}
use Rattle.jfs_served.proofs.Room.{spelled_is}

-- ---- bytes of a torn page

torn_byte : (sectors : ℕ) (front rest : List ℕ) (i : ℕ) → sectors ≤ 8 → length front ≡ 4096 → (get_or (torn sectors front rest) i 0 ≡ get_or front i 0) ⊎ (get_or (torn sectors front rest) i 0 ≡ get_or rest i 0)
unfolding torn
torn_byte sectors front rest i within size = by (cases_lt i (512 * sectors))
  where
    taken : length (take (512 * sectors) front) ≡ 512 * sectors
    taken = length-take-le (512 * sectors) front (omega (arith, within, size))

    by : (i < 512 * sectors) ⊎ (512 * sectors ≤ i) → (get_or (take (512 * sectors) front ++ drop (512 * sectors) rest) i 0 ≡ get_or front i 0) ⊎ (get_or (take (512 * sectors) front ++ drop (512 * sectors) rest) i 0 ≡ get_or rest i 0)
    by (inl l) = inl (get_or_append_left (take (512 * sectors) front) (drop (512 * sectors) rest) 0 i (omega (arith, l, taken)) ∙ get_or-take (512 * sectors) front i 0 l)
    by (inr l) = inr (get_or-append_right (take (512 * sectors) front) (drop (512 * sectors) rest) (512 * sectors) i 0 taken l
        ∙ get_or-drop (512 * sectors) rest (i - 512 * sectors) 0 ∙ ap (λ (k : ℕ). get_or rest k 0) (let e : 512 * sectors + (i - 512 * sectors) ≡ i = omega (arith, l) in e))

-- ---- what the blocks of the data hold now, as data

abbrev pub seen_as : (ℕ → List ℕ) → List DataPage → List DataPage
seen_as pages [] = []
seen_as pages (d ∷ ds) = record { block = d.block; page = record { 0 = pages d.block } } ∷ seen_as pages ds

same_blocks : (pages : ℕ → List ℕ) (ds : List DataPage) (b : ℕ) → is_put b (seen_as pages ds) ≡ is_put b ds
same_blocks pages [] b = refl
same_blocks pages (d ∷ ds) b = ap (λ (x : Bool). (d.block == b) || x) (same_blocks pages ds b)

put_again : (pages : ℕ → List ℕ) (ds : List DataPage) (b : ℕ) → page_put (seen_as pages ds) b (pages b) ≡ pages b
put_again pages [] b = refl
put_again pages (d ∷ ds) b = ap (page_put (seen_as pages ds) b) (by (d.block == b) refl) ∙ put_again pages ds b
  where
    by : (x : Bool) → (d.block == b) ≡ x → (if x then pages d.block else pages b) ≡ pages b
    by true e = ap pages (eqb-true d.block b e)
    by false e = refl

seen_is : (old new : ℕ → List ℕ) (ds : List DataPage) → ((b : ℕ) → is_put b ds ≡ false → new b ≡ old b) → (b : ℕ) → put_data (seen_as new ds) old b ≡ new b
seen_is old new ds others b = by (is_put b ds) refl
  where
    by : (x : Bool) → is_put b ds ≡ x → page_put (seen_as new ds) b (old b) ≡ new b
    by true e = put_on (seen_as new ds) b (old b) (new b) (same_blocks new ds b ∙ e) ∙ put_again new ds b
    by false e = put_off (seen_as new ds) b (old b) (same_blocks new ds b ∙ e) ∙ sym (others b e)

-- ---- bytes of a file

-- Where each page has bytes of two others, so has the file, whatever its extents are.
either_byte : (one other mix : ℕ → List ℕ) (es : List Xad) (size i : ℕ) (x : ℕ) → ((b j : ℕ) → (get_or (mix b) j 0 ≡ get_or (one b) j 0) ⊎ (get_or (mix b) j 0 ≡ get_or (other b) j 0))
    → bytes_held one es size i ≡ x → bytes_held other es size i ≡ x → bytes_held mix es size i ≡ x
either_byte one other mix es size i x either first second = by (nat_lt i size) (block_of es (i / 4096)) first second
  where
    by : (l : Bool) (o : Option ℕ) → (if l then byte_of (bytes_at one o) (i % 4096) else 0) ≡ x → (if l then byte_of (bytes_at other o) (i % 4096) else 0) ≡ x → (if l then byte_of (bytes_at mix o) (i % 4096) else 0) ≡ x
    by false o e f = e
    by true None e f = e
    by true (Some b) e f = elim (either b (i % 4096)) [
      | inl h ↦ h ∙ e
      | inr h ↦ h ∙ f
    ]

module _ (area : ℕ → ℕ) (log_pages : ℕ) (request : Request) (now : Moment) (tx : List Edit) (put : List DataPage) (fault : Fault) (old mid new : Parts)
    (may : MayServe area log_pages old) (asked : IsAsked old mid) (answer : IsAnswer request now old mid (Changed tx put)) (own : PutsOwn (blocks_at old) (volume_at area old) put)
    (back : GivesBack tx mid new) (partly : IsPartlyPut put mid.view new.view) (cause : IsFault old.faults new.faults fault) (entry : Entry) where
  abbrev n : ℕ
  n = blocks_at old

  abbrev r : Readers
  r = readers n

  abbrev v : Volume
  v = volume_at area old

  abbrev t : Tree
  t = tree_at area old

  -- what was put, as data
  abbrev ds : List DataPage
  ds = seen_as (page_of new.view) put

  part : IsPartlyPut put old.view new.view
  part = subst (λ (image : Image). IsPartlyPut put image new.view) asked.view partly

  starts : StartsWith n v request.call put
  starts = answer.starts (between area log_pages old may) area may.holds.consistent log_pages may.holds.limit

  -- ---- the file

  was : objects r v own.inode ≡ Some (spelled r v.page own.file.inode)
  was = own.there ∙ ap (λ (o : Object). Some o) (spelled_is r v own.inode own.file own.there)

  abbrev es : List Xad
  es = (may.holds.consistent.sound.whole own.inode own.file own.there).extents

  extents_are : listed r.extents_order (spelled r v.page own.file.inode).extents ≡ Ok es
  extents_are = ap (λ (o : Object). listed r.extents_order o.extents) (sym (spelled_is r v own.inode own.file own.there)) ∙ (may.holds.consistent.sound.whole own.inode own.file own.there).extents_are

  put_of : (list : List DataPage) → MayPut r v own.inode list → IsFilePut n v (with_data list v) own.inode (bytes_held (put_data list v.page) es own.file.inode.size)
  put_of list over = file_before n v own.inode own.file.inode es list may.holds.consistent was own.regular extents_are over

  may_now : MayPut r v own.inode ds
  may_now b e = own.may b (sym (same_blocks (page_of new.view) put b) ∙ e)

  own_now : PutsOwn n v ds
  own_now = record { inode = own.inode; file = own.file; there = own.there; regular = own.regular; may = may_now }

  done : IsFilePut n v (with_data ds v) own.inode (bytes_held (put_data ds v.page) es own.file.inode.size)
  done = put_of ds may_now

  -- its bytes then
  in_file : (list : List DataPage) (over : MayPut r v own.inode list) (i : ℕ) → (tree_on r (with_data list v)).bytes own.inode i ≡ bytes_held (put_data list v.page) es own.file.inode.size i
  in_file list over i = (put_of list over).same.bytes own.inode i ∙ ap (λ (f : ℕ → ℕ). f i) (put_here own.inode (bytes_held (put_data list v.page) es own.file.inode.size) t.bytes)

  mixed : (b j : ℕ) → (get_or (put_data ds v.page b) j 0 ≡ get_or (v.page b) j 0) ⊎ (get_or (put_data ds v.page b) j 0 ≡ get_or (put_data put v.page b) j 0)
  mixed b j = by (is_put b put) refl
    where
      now_is : put_data ds v.page b ≡ page_of new.view b
      now_is = seen_is v.page (page_of new.view) put part.others b

      by : (x : Bool) → is_put b put ≡ x → (get_or (put_data ds v.page b) j 0 ≡ get_or (v.page b) j 0) ⊎ (get_or (put_data ds v.page b) j 0 ≡ get_or (put_data put v.page b) j 0)
      by false e = inl (ap (λ (page : List ℕ). get_or page j 0) (now_is ∙ part.others b e))
      by true e = either (part.each b e)
        where
          byte : (page : List ℕ) → page_of new.view b ≡ page → get_or (put_data ds v.page b) j 0 ≡ get_or page j 0
          byte page is = ap (λ (p : List ℕ). get_or p j 0) (now_is ∙ is)

          either : IsPartly (put_data put v.page b) (v.page b) (page_of new.view b) → (get_or (put_data ds v.page b) j 0 ≡ get_or (v.page b) j 0) ⊎ (get_or (put_data ds v.page b) j 0 ≡ get_or (put_data put v.page b) j 0)
          either (inl is) = inr (byte (put_data put v.page b) is)
          either (inr (inl is)) = inl (byte (v.page b) is)
          either (inr (inr (sectors, few, is))) =
              let same = byte (torn sectors (put_data put v.page b) (v.page b)) is in
              elim (torn_byte sectors (put_data put v.page b) (v.page b) j few (put_whole put b (v.page b) answer.contents.1 e)) [
                | inl h ↦ inr (same ∙ h)
                | inr h ↦ inl (same ∙ h)
              ]

  rest : LeavesRest t request.call (tree_on r (with_data ds v))
  rest = record { nodes = done.same.nodes; bytes = bytes }
    where
      bytes : (m i : ℕ) → writes_over_in (written_file t request.call) request.call m i ≡ false → (tree_on r (with_data ds v)).bytes m i ≡ t.bytes m i
      bytes m i h = elim (eq_or_not m own.inode) [
        | inl e ↦ subst (λ (k : ℕ). (tree_on r (with_data ds v)).bytes k i ≡ t.bytes k i) (sym e) (here (subst (λ (k : ℕ). writes_over_in (written_file t request.call) request.call k i ≡ false) e h))
        | inr a ↦ done.same.bytes m i ∙ ap (λ (f : ℕ → ℕ). f i) (put_other own.inode (bytes_held (put_data ds v.page) es own.file.inode.size) t.bytes m a)
      ]
        where
          here : writes_over_in (written_file t request.call) request.call own.inode i ≡ false → (tree_on r (with_data ds v)).bytes own.inode i ≡ t.bytes own.inode i
          here h = in_file ds may_now i ∙ either_byte v.page (put_data put v.page) (put_data ds v.page) es own.file.inode.size i (t.bytes own.inode i) mixed
              (sym (in_file [] (λ b e. absurd (cc (e))) i)) (sym (in_file put own.may i) ∙ starts.rest.bytes own.inode i h)

  -- ---- the volume

  abbrev given : Parts → Parts
  given p = record p { view = new.view; disk = new.disk; past = new.past; faults = new.faults; map = new.map; halted = new.halted }

  parts : given old ≡ new
  parts = sym (back.joins_not.parts ∙ ap given asked.parts)

  state_is : (b : ℕ) → state_of new.map b ≡ state_of old.map b
  state_is b = state_by new.map (put_state Free (taken_in tx) mid.map) b back.map ∙ back_at tx old.map mid.map may.none answer.maps.free (ap (λ (m : Maps). m.blocks) answer.maps.now_is) back.reserved b

  size : blocks_at new ≡ n
  size = ap (λ (ss : List BlockState). length ss) back.map.states ∙ back_size tx old.map mid.map may.none answer.maps.free (ap (λ (m : Maps). m.blocks) answer.maps.now_is) back.reserved

  inodes : new.inodes ≡ old.inodes
  inodes = sym (ap (λ (p : Parts). p.inodes) parts)

  alike : AreAlike (with_data ds v) (volume_at area new)
  alike = record {
    extents = ap (λ (m : Inodes). map extent_place m.extents) inodes;
    area = λ b. refl;
    used = λ b. ap₂ (λ (k : ℕ) (x : Bool). nat_lt b k && x) size (ap is_owned_state (state_is b));
    in_use = λ i. ap (λ (m : Inodes). is_used m i) inodes;
    pages = λ b used zero. sym (seen_is v.page (page_of new.view) put part.others b);
  }

  means : MeanTheSame r (with_data ds v) (volume_at area new)
  means = alike_law r (with_data ds v) (volume_at area new) done.consistent alike

  leaves : LeavesRest t request.call (tree_at area new)
  leaves = subst (λ (k : ℕ). LeavesRest t request.call (tree_on (readers k) (volume_at area new))) (sym size)
      (record { nodes = λ m. means.tree.nodes m ∙ rest.nodes m; bytes = λ m i h. means.tree.bytes m i ∙ rest.bytes m i h })

  -- no block of a fixed area is put: it is in use, and no file's
  area_stays : (b : ℕ) → 0 < area b → page_of new.view b ≡ page_of old.view b
  area_stays b more = part.others b (by (is_put b put) refl)
    where
      held : 0 < is_data r (objects r v own.inode) b → ⊥
      held some = let d = data_held r (objects r v own.inode) b in let apart = (owned_once r v may.holds.consistent.sound.agrees).apart own.inode b (omega (arith, d, some)) in omega (arith, apart, more)

      by : (x : Bool) → is_put b put ≡ x → is_put b put ≡ false
      by false e = e
      by true e = elim (own.may b e) [
        | inl free ↦ absurd (cc (free, area_used r v may.holds.consistent.sound.agrees b more))
        | inr some ↦ absurd (held some)
      ]

  pub torn_step : TakesStep area log_pages request.call now (Refused (IoFault fault)) old (with_entry entry new)
  torn_step = record {
    step = (inl cause, leaves);
    follows = tears fault refl (record { put = ds; own = own_now; size = size; alike = alike });
    serves = record {
      holds = record {
        consistent = subst (λ (k : ℕ). IsConsistent (readers k) (volume_at area new)) (sym size) means.consistent;
        limit = sym (ap (λ (p : Parts). p.limit) parts) ∙ may.holds.limit;
        within = (let b = ap (λ (p : Parts). p.blocks) parts in let h = may.holds.within in omega (arith, h, size, b));
        places = subst (λ (m : Inodes). PlacesWithin (blocks_at new) m) (sym inodes) (subst (λ (k : ℕ). PlacesWithin k old.inodes) (sym size) may.holds.places);
        few = subst (λ (m : Inodes). length m.extents ≤ 2 ^ 27) (sym inodes) may.holds.few;
        bits = subst (λ (m : Inodes). HasBits m) (sym inodes) may.holds.bits;
        freed = subst (λ (fs : List FreedPage). AllByRecursion (IsBusyPage new.map) fs) (ap (λ (p : Parts). p.freed) parts) (all_busy old.map new.map old.freed (λ b entry e. state_is b ∙ e) may.holds.freed);
        areas = λ b zero. subst (λ (f : MapFiles). HoldsNone f b) (ap (λ (p : Parts). p.files) parts) (may.holds.areas b zero);
      };
      none = λ b e. may.none b (sym (state_is b) ∙ e);
    };
    files = files_stay area log_pages old new may.holds (unchanged area old new area_stays (sym (ap (λ (p : Parts). p.files) parts)) size (λ b. ap is_owned_state (state_is b)) inodes);
  }

-- what was put in part is a file's own
own_of : (blocks : ℕ) (v : Volume) (put : List DataPage) → (put ≡ []) ⊎ PutsOwn blocks v put → 0 < length put → PutsOwn blocks v put
own_of blocks v put (inl none) some = absurd (let e = ap (λ (ds : List DataPage). length ds) none in omega (arith, e, some))
own_of blocks v put (inr own) some = own

pub torn_law : TornLaw
torn_law area log_pages request now tx put fault entry old mid torn new may asked answer back partly cause is =
    subst (λ (p : Parts). TakesStep area log_pages request.call now (Refused (IoFault fault)) old p) (sym is)
    (torn_step area log_pages request now tx put fault old mid torn may asked answer (own_of (blocks_at old) (volume_at area old) put starts.own put_now.some) back put_now cause entry)
  where
    starts : StartsWith (blocks_at old) (volume_at area old) request.call put
    starts = answer.starts (between area log_pages old may) area may.holds.consistent log_pages may.holds.limit

    put_now : IsPartlyPut put mid.view torn.view
    put_now = partly starts.once
