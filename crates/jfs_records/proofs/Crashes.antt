-- What a crash leaves while a group is written.
use Rattle.std.proofs.Common.{◌≡◌, ◌≤◌, ◌+◌, ◌*◌, ℕ, List, [], ◌∷◌, ◌++◌, length, take, drop, map, refl, sym, ap, subst, ◌∙◌, append_assoc, arith}
use Rattle.std.proofs.lemmas.List.{length-append, length-drop, drop-append-le}
use Rattle.std.proofs.lemmas.Grind.{flat_map-append}
use Rattle.jfs_logfmt.specs.Written.{text_of}
use Rattle.jfs_ranges.specs.declared.edit.Edit.{Edit}
use Rattle.jfs_logfmt.specs.declared.log_record.Record.{Record}
use Rattle.jfs_logpages.specs.Ring.{Reads, last_end}
use Rattle.jfs_logpages.specs.Back.{Met, FromSync}
use Rattle.jfs_logpages.specs.Records.{size_of, log_text, BeginsAt, ends_of, AreWhole, first_record_of, IsChain, stand_at}
use Rattle.jfs_records.specs.Entries.{Item, log_records, text_size}
use Rattle.jfs_records.specs.Limits.{ItemsFit}
use Rattle.jfs_records.specs.Committed.{committed, entries_of}
use Rattle.jfs_records.specs.Laws.{BeginsWithin, CrashesFindFronts}
use Rattle.jfs_records.proofs.ReadBack.{front_after, front_back, entries_back, length-items}
use Rattle.jfs_records.proofs.Chain.{IsAnew, chain_log, chain_front, whole_log, whole_front, log_anew}
use Rattle.jfs_logpages.proofs.WrittenRecords.{records_stand, reads}
use Rattle.jfs_logpages.proofs.Fronts.{group_front}

-- the records of the window, where they begin
record IsFound (ring first blocks : ℕ) (text : List ℕ) (rs : List Record) : Type 0 where
  m : Met
  ms : List Met
  found : FromSync ring first blocks text m ms
  are : map (λ x. x.is) (m ∷ ms) ≡ rs

found : (ring first blocks : ℕ) (front : List ℕ) (rs : List Record) → AreWhole blocks rs → IsChain ring (4080 * first + length front) rs → IsAnew (first_record_of rs) → BeginsAt ring (4080 * first + length front) rs → IsFound ring first blocks (front ++ log_text rs) rs
found ring first blocks front [] gs c anew begins = absurd begins
found ring first blocks front (r ∷ rs) gs c anew begins = record {
  m = record { start = length front; end = length front + size_of r; is = r };
  ms = stand_at (length front + size_of r) rs;
  found = reads ring first blocks (length front) (4080 * first + length front) front r rs gs refl refl c anew begins;
  are = records_stand (length front) (r ∷ rs);
}

behind_fits : (blocks : ℕ) (pre post : List Item) → ItemsFit blocks (pre ++ post) → ItemsFit blocks post
behind_fits blocks [] post fits = fits
behind_fits blocks (i ∷ is) post fits = behind_fits blocks is post fits.1

pub crashes_find_fronts : CrashesFindFronts
crashes_find_fronts ring blocks high log front is js some most size fits reach begins prefix =
    record {
      first = first;
      text = window ++ log_text rs;
      reads = (let P : List ℕ → Type 0 = λ l. Reads ring log first l in subst P text prefix.reads);
      m = here.m;
      ms = here.ms;
      found = here.found;
      pre = b.pre;
      post = b.post;
      parts = b.parts;
      number = n.0;
      are = ap committed here.are ∙ n.2;
      new = all.0;
      most = all.1;
      all = ap (λ (l : List (List Edit)). entries_of b.pre ++ l) (sym n.2) ∙ sym (entries_back ring (length front) b.pre rs) ∙ ap committed (sym b.are) ∙ all.2;
    }
  where
    old : List Record
    old = log_records ring (length front) is

    new : List Record
    new = log_records ring (length front + text_size is) js

    first : ℕ
    first = prefix.first

    g : (k : ℕ) × (take (last_end (ends_of 0 new) prefix.upto) (log_text new) ≡ log_text (take k new))
    g = group_front prefix.upto new

    b : BeginsWithin ring (length front) (old ++ take g.0 new) (is ++ js)
    b = begins g.0

    at : ℕ
    at = length front + text_size b.pre

    pre : List Record
    pre = log_records ring (length front) b.pre

    rs : List Record
    rs = take b.some (log_records ring at b.post)

    window : List ℕ
    window = drop (4080 * first) front ++ log_text pre

    low : 4080 * first ≤ length front
    low = omega (arith, prefix.reach, reach)

    place : 4080 * first + length window ≡ at
    place = omega (arith, low, length-append (drop (4080 * first) front) (log_text pre), length-drop (4080 * first) front, length-items ring (length front) b.pre)

    text : drop (4080 * first) ((front ++ log_text old) ++ take (last_end (ends_of 0 new) prefix.upto) (log_text new)) ≡ window ++ log_text rs
    text =
        ap (λ (l : List ℕ). drop (4080 * first) ((front ++ log_text old) ++ l)) g.1
        ∙ ap (λ (l : List ℕ). drop (4080 * first) l) (append_assoc front (log_text old) (log_text (take g.0 new)) ∙ ap (λ (l : List ℕ). front ++ l) (sym (flat_map-append text_of old (take g.0 new)) ∙ ap log_text b.are ∙ flat_map-append text_of pre rs))
        ∙ drop-append-le (4080 * first) front (log_text pre ++ log_text rs) low
        ∙ sym (append_assoc (drop (4080 * first) front) (log_text pre) (log_text rs))

    fit : ItemsFit blocks b.post
    fit = let P : List Item → Type 0 = λ l. ItemsFit blocks l in behind_fits blocks b.pre b.post (subst P b.parts fits)

    here : IsFound ring first blocks (window ++ log_text rs) rs
    here = let C : ℕ → Type 0 = λ n. IsChain ring n rs in let B : ℕ → Type 0 = λ n. BeginsAt ring n rs in
        found ring first blocks window rs (whole_front blocks (log_records ring at b.post) b.some (whole_log ring blocks at some most size b.post fit))
        (subst C (sym place) (chain_front ring at (log_records ring at b.post) b.some (chain_log ring at b.post))) (log_anew ring at b.post b.some) (subst B (sym place) b.begins)

    n : (n : ℕ) × (n ≤ length (entries_of b.post)) × (committed rs ≡ take n (entries_of b.post))
    n = front_back ring at b.post b.some

    all : (n : ℕ) × (n ≤ length (entries_of js)) × (committed (old ++ take g.0 new) ≡ entries_of is ++ take n (entries_of js))
    all = front_after ring (length front) is js g.0
