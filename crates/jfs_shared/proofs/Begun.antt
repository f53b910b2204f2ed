-- A volume that was just mounted, and its log, stand for no entry.
use Rattle.std.proofs.Common.{◌≡◌, ◌⊎◌, ◌<◌, ◌≤◌, ◌+◌, ◌^◌, ℕ, ◌-◌, ◌*◌, List, [], ◌∷◌, ◌++◌, length, true, false, refl, inl, inr, sym, ap, subst, ◌∙◌, arith, append-nil}
use Rattle.std.proofs.lemmas.Bool.{false≢true, cases_lt}
use Rattle.std.proofs.lemmas.List.{get_or_past}
use Rattle.jfs_disk.specs.Seen.{page_of-seen_of}
use Rattle.jfs_disk.proofs.Flow.{history-settled, length-settled, crash-settled}
use Rattle.jfs_disk.specs.Image.{Image, page_of}
use Rattle.jfs_disk.specs.Crash.{PageHistory, DiskState, IsCrashPage, history_of, no_page, seen_of, settled, last_of}
use Rattle.jfs_disk.specs.Moment.{IsResting}
use Rattle.jfs_super.specs.Geometry.{IsLayout, geometry_of}
use Rattle.jfs_super.specs.Rules.{blocks_of}
use Rattle.jfs_super.proofs.Rules.{accepted_layout}
use Rattle.jfs_super.specs.declared.fields.Super.{Super}
use Rattle.jfs_logfmt.specs.Written.{text_of}
use Rattle.jfs_logpages.specs.Fresh.{first_record, super_page}
use Rattle.jfs_logpages.specs.Group.{Holds, position_of}
use Rattle.jfs_logpages.specs.Ring.{IsRing, fresh_text, fresh_ends}
use Rattle.jfs_records.specs.Entries.{point}
use Rattle.jfs_records.proofs.ReadBack.{length-items}
use Rattle.jfs_groups.specs.Log.{LogData, LogStandsFor}
use Rattle.jfs_groups.proofs.Stands.{fresh}
use Rattle.jfs_kept_history.specs.legal.specs.served.specs.halves.specs.Half.{Halves}
use Rattle.jfs_kept_history.specs.legal.specs.served.specs.halves.specs.Laws.{fresh_halves}
use Rattle.jfs_kept_history.specs.legal.specs.served.specs.halves.specs.Log as halves
use Rattle.jfs_kept_history.specs.legal.specs.served.specs.halves.specs.Log.{LogParts, HoldsItems}
use Rattle.jfs_kept_history.specs.legal.specs.served.specs.halves.specs.Parts.{Parts, StandsFor}
use Rattle.jfs_kept_history.specs.legal.specs.served.specs.shown.specs.meaning.specs.Image.{IsConsistentImage, volume_of}
use Rattle.jfs_kept_history.specs.legal.specs.served.proofs.Told.{told_mount}
use Rattle.jfs_kept_history.specs.legal.proofs.Going.{begin_law}
use Rattle.jfs_kept_history.specs.legal.proofs.Known.{laws}
use Rattle.jfs_kept_history.specs.Keepable.{IsKeepableImage}
use Rattle.jfs_kept_history.proofs.Begun.{begin_law as kept_begins}
use Rattle.jfs_shared.specs.Shared.{logs_of, HasText, IsShared, IsServed, IsKeptServed}
use Rattle.jfs_shared.specs.Faults.{any_failed}
use Rattle.jfs_shared.specs.Base.{log_start_of}
use Rattle.jfs_shared.specs.Start.{IsJustMounted, base_at}
use Rattle.jfs_shared.proofs.Fresh.{fresh_holds}

-- of a page with nothing pending a crash leaves what a read gives
rested : (h : PageHistory) (page : List ℕ) → h ≡ record { seen = h.seen; stable = h.seen; writes = [] } → IsCrashPage h page → page ≡ h.seen
rested h page same crash = ap (λ (im : Image). page_of im 0) (crash-settled (h ∷ []) (page ∷ []) (record { number = sym (length-settled (h ∷ [])); each = each }))
  where
    each : (n : ℕ) → n < length (settled (h ∷ [])) → IsCrashPage (history_of (settled (h ∷ [])) n) (page_of (page ∷ []) n)
    each n small =
        let first : n ≡ 0 = omega (arith, small, length-settled (h ∷ [])) in
        subst (λ (k : ℕ). IsCrashPage (history_of (settled (h ∷ [])) k) (page_of (page ∷ []) k)) (sym first)
        (subst (λ (x : PageHistory). IsCrashPage x page) (same ∙ sym (history-settled (h ∷ []) 0 (omega arith))) crash)

rested_page : (state : DiskState) (n : ℕ) (page : List ℕ) → IsResting state → IsCrashPage (history_of state n) page → page ≡ page_of (seen_of state) n
rested_page state n page rests crash = by (cases_lt n (length state)) ∙ sym (page_of-seen_of state n)
  where
    by : (n < length state) ⊎ (length state ≤ n) → page ≡ (history_of state n).seen
    by (inl here) = rested (history_of state n) page (ap (λ (states : DiskState). history_of states n) rests ∙ history-settled state n here) crash
    by (inr past) = rested no_page page refl (subst (λ (h : PageHistory). IsCrashPage h page) (get_or_past state n no_page past) crash) ∙ sym (ap (λ (h : PageHistory). h.seen) (get_or_past state n no_page past))

module _ (tells crashes : Type 0) (s : Super) (image : Image) (volume : Parts) (log : LogParts) (m : IsJustMounted tells crashes s image volume log) where
  abbrev ring : ℕ
  ring = s.logpxd.len - 2

  abbrev both : Halves
  both = fresh_halves ring (record { pages = m.mount.pages; map = m.mount.maps.blocks; inodes = m.mount.maps.inodes })

  layout : IsLayout (geometry_of s)
  layout = accepted_layout s m.pages m.accepted

  pub within : blocks_of s ≤ volume.blocks
  within = let behind = layout.behind in omega (arith, behind, m.blocks)

  some : 2 ≤ ring
  some = let shortest = layout.shortest in omega (arith, shortest)

  none_told : (fact : Type 0) → false ≡ true → fact
  none_told fact e = absurd (false≢true e)

  stands : StandsFor false false volume both.volume
  stands = m.mount.fresh false false (none_told tells) (none_told crashes)

  pub log_stands : halves.LogStandsFor false false log both
  log_stands = m.mount.log_fresh false false (none_told tells) (none_told crashes)

  text : HasText ring [] 0 0 volume.text
  text = record {
    ring_is = stands.text.ring;
    place = let place = stands.text.place in omega (arith, place);
    bytes = stands.text.bytes;
    ends = stands.text.ends;
    last = stands.text.last;
  }

  abbrev pub served : tells → IsConsistentImage s (page_of image) → IsServed s (page_of image) false [] volume
  served t consistent =
      let held = laws.mounted s image volume log (told_mount tells crashes t s image volume log m.mount) within consistent in
      record { start = volume; holds = held; runs = m.runs; goes_on = begin_law (volume_of s (page_of image)).area s.logpxd.len volume held.serves }

  pub kept : tells → crashes → IsKeepableImage s image → IsKeptServed s image false [] [] volume
  kept t c checked = record {
    served = served t (checked.keepable.consistent);
    since = kept_begins tells crashes t c s image volume log m.mount checked;
    ring = text.ring_is;
    blocks = m.blocks;
  }

  pub volume_stands : (pages faults : ℕ) → volume.faults < 2 ^ 64 → IsShared tells crashes (base_at s image volume pages faults) [] 0 0 [] 0 0 false volume
  volume_stands pages faults few = record {
    entries = stands.entries;
    appended = stands.appended;
    few = omega arith;
    taken_is = stands.taken;
    told_is = stands.told;
    points_are = refl;
    points_is = stands.points;
    known_is = stands.known;
    told_within = omega arith;
    taken_within = omega arith;
    text = text;
    disk = record { pages = refl; room = refl; few = few; faults = inl refl; calm = inl (ap any_failed stands.entries); runs = inl m.runs; unmarked = λ _. refl };
    size = let same = ap (λ map. length map.states) m.mount.has_maps.0 in let number = m.mount.rest.number in omega (arith, same, number, within);
    served = λ t. subst (λ (k : Super). IsConsistentImage k (page_of image) → IsServed k (page_of image) false [] volume) (sym (m.spelled t)) (served t);
    kept = λ t c. subst (λ (k : Super). IsKeepableImage k image → IsKeptServed k image false [] [] volume) (sym (m.spelled t)) (kept t c);
  }

  -- ---- the log

  pub sized : length (text_of first_record) ≡ 36
  sized = ap (λ (b : List ℕ). length b) (sym (append-nil (text_of first_record))) ∙ length-items ring (4080 * (ring - 1)) (point 0 ∷ [])

  -- what mounts say of a log's text leaves its front open
  pub holds : tells → Holds log.last (fresh_text ring (text_of first_record)) (fresh_ends ring) log.image
  holds t = fresh_holds ring log.last log.image h.front (text_of first_record) h.ends some sized h.begins log_stands.ring
      (subst (λ (b : List ℕ). Holds log.last (h.front ++ b) h.ends log.image) (append-nil (text_of first_record)) h.holds)
      (subst (λ (n : ℕ). IsRing ring (fresh_text ring (text_of first_record)) (fresh_ends ring) n log.image) (let k : s.logpxd.len - 3 ≡ ring - 1 = omega arith in k) (m.fresh t).ring)
    where
      h : HoldsItems ring both.log log.last log.image
      h = (m.mount.log_fresh true false (λ _. t) (none_told crashes)).items refl refl

  pub rests : crashes → IsResting (last_of log.past)
  rests c = (m.mount.log_fresh false true (none_told tells) (λ _. c)).resting refl refl

  -- a fresh log's superblock, of which nothing is pending
  super : (now : LogData) → now.image ≡ log.image → now.past ≡ log.past → (crashes → now.image ≡ seen_of (last_of now.past)) → tells → crashes → (page : List ℕ) → IsCrashPage (history_of (last_of now.past) 1) page → page ≡ (log_start_of (base_at s image volume now.pages now.faults)).super
  super now same_image same_past seen t c page crash =
      rested_page (last_of now.past) 1 page (subst (λ states. IsResting (last_of states)) (sym same_past) (rests c)) crash
      ∙ ap (λ im. page_of im 1) (sym (seen c) ∙ same_image)
      ∙ (m.fresh t).super_block
      ∙ ap (λ (n : ℕ). super_page n s.uuid) (let shortest = layout.shortest in let k : s.logpxd.len ≡ ring + 2 = omega (arith, shortest) in k)
      ∙ ap (λ (u : Super). super_page (ring + 2) u.uuid) (sym (m.spelled t))

  pub begun_stands : (now : LogData) → now.image ≡ log.image → now.past ≡ log.past → now.last ≡ log.last → now.durable ≡ log.durable → now.points ≡ 0 → now.halted ≡ log.halted → (crashes → now.image ≡ seen_of (last_of now.past)) → now.faults < 2 ^ 64
      → LogStandsFor logs_of tells crashes (log_start_of (base_at s image volume now.pages now.faults)) now [] 0 0 [] 0
  begun_stands now same_image past last durable points halted seen few = fresh logs_of tells crashes (log_start_of (base_at s image volume now.pages now.faults)) now (fresh_ends ring)
      (ap (λ l. l.ring) last ∙ log_stands.ring)
      refl
      refl
      few
      (ap position_of last ∙ m.together.place ∙ stands.text.place)
      (durable ∙ log_stands.durable)
      points
      (halted ∙ log_stands.halted)
      (λ t. subst (λ l. Holds l (fresh_text ring (text_of first_record)) (fresh_ends ring) now.image) (sym last) (subst (λ im. Holds log.last (fresh_text ring (text_of first_record)) (fresh_ends ring) im) (sym same_image) (holds t)))
      (λ c. subst (λ states. IsResting (last_of states)) (sym past) (rests c))
      (super now same_image past seen)
