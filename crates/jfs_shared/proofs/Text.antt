-- The text that waits: a group takes it, an entry joins it, a SYNCPT goes past it.
use Rattle.std.proofs.Common.{◌≡◌, ◌≤◌, ℕ, suc, ◌+◌, List, [], ◌∷◌, ◌++◌, length, take, drop, Option, Some, None, refl, sym, ap, ◌∙◌, arith, append-nil}
use Rattle.std.proofs.lemmas.List.{length-append, length-drop, length-take-le, take-append-drop, take-append-le, drop-append-le}
use Rattle.std.proofs.lemmas.Grind.{flat_map-append}
use Rattle.std.proofs.Math.Seq.{take-length, drop-length}
use Rattle.jfs_logfmt.specs.Written.{text_of}
use Rattle.jfs_logfmt.specs.declared.log_record.Record.{Record}
use Rattle.jfs_logpages.specs.Records.{log_text, ends_of}
use Rattle.jfs_logpages.specs.Ring.{ends_with}
use Rattle.jfs_logpages.proofs.RecordEnds.{ends-both}
use Rattle.jfs_records.specs.Records.{Noted}
use Rattle.jfs_records.specs.Entries.{Item, entry, text_size, log_records, item_records}
use Rattle.jfs_records.proofs.ReadBack.{length-items, records-append}
use Rattle.jfs_groups.specs.Text.{item_of, items_from, end_of}
use Rattle.jfs_groups.proofs.Text.{from-append, end_grows}
use Rattle.jfs_kept_history.specs.legal.specs.served.specs.halves.specs.Parts.{Text}
use Rattle.jfs_shared.specs.Shared.{logs_of, HasText}
use Rattle.jfs_shared.specs.Entries.{Recorded}

-- what one entry adds to a text, by its number
abbrev pub added : Option (List Noted) → ℕ → Text → List ℕ
added None n text = []
added (Some noted) n text = log_text (item_records text.ring (text.place + length text.bytes) (entry n noted))

-- and where its records end
abbrev pub ended : Option (List Noted) → ℕ → Text → List ℕ
ended None n text = text.ends
ended (Some noted) n text = ends_with (length text.bytes) text.ends (ends_of 0 (item_records text.ring (text.place + length text.bytes) (entry n noted)))

module _ (ring : ℕ) (list : List Recorded) (taken points : ℕ) (text : Text) (h : HasText ring list taken points text) (within : taken ≤ length list) where
  abbrev rest : List Recorded
  rest = drop taken list

  abbrev front : List Recorded
  front = take taken list

  abbrev start : ℕ
  start = end_of logs_of ring front points

  sized : length text.bytes ≡ text_size (items_from logs_of taken rest)
  sized = ap (λ (b : List ℕ). length b) h.bytes ∙ length-items ring start (items_from logs_of taken rest)

  front_is : length front ≡ taken
  front_is = length-take-le taken list within

  -- the text reaches as far as the whole list's does
  pub reaches : text.place + length text.bytes ≡ end_of logs_of ring list points
  reaches = omega (
    arith,
    h.place,
    sized,
    ap (λ (k : ℕ). text_size (items_from logs_of k rest)) front_is,
    end_grows logs_of ring points front rest,
    ap (λ (es : List Recorded). end_of logs_of ring es points) (take-append-drop taken list),
  )

  -- ---- a group takes it

  all : take (length list) list ≡ list
  all = take-length list

  none : drop (length list) list ≡ []
  none = drop-length list

  pub taken_text : (new : Text) → new.ring ≡ text.ring → new.place ≡ text.place + length text.bytes → new.bytes ≡ [] → new.ends ≡ [] → new.last ≡ text.last → HasText ring list (length list) points new
  taken_text new same place empty no_ends last = record {
    ring_is = same ∙ h.ring_is;
    place = place ∙ reaches ∙ sym (ap (λ (es : List Recorded). end_of logs_of ring es points) all);
    bytes = empty ∙ sym (ap (λ (es : List Recorded). log_text (log_records ring (end_of logs_of ring (take (length list) list) points) (items_from logs_of (length list) es))) none);
    ends = no_ends ∙ sym (ap (λ (es : List Recorded). ends_of 0 (log_records ring (end_of logs_of ring (take (length list) list) points) (items_from logs_of (length list) es))) none);
    last = last ∙ h.last;
  }

  -- ---- an entry joins it

  module _ (e : Recorded) where
    longer_front : take taken (list ++ e ∷ []) ≡ front
    longer_front = take-append-le taken list (e ∷ []) within

    longer_rest : drop taken (list ++ e ∷ []) ≡ rest ++ e ∷ []
    longer_rest = drop-append-le taken list (e ∷ []) within

    number : suc (taken + length rest) ≡ suc (length list)
    number = omega (arith, length-drop taken list, within)

    items : items_from logs_of taken (drop taken (list ++ e ∷ [])) ≡ items_from logs_of taken rest ++ item_of (suc (length list)) (logs_of e)
    items = ap (λ (es : List Recorded). items_from logs_of taken es) longer_rest ∙ from-append logs_of taken rest (e ∷ [])
        ∙ ap (λ (is : List Item). items_from logs_of taken rest ++ is) (append-nil (item_of (suc (taken + length rest)) (logs_of e)) ∙ ap (λ (n : ℕ). item_of n (logs_of e)) number)

    -- the records of its item
    record_is : (noted : List Noted) → item_records text.ring (text.place + length text.bytes) (entry (suc (length list)) noted) ≡ log_records ring (start + text_size (items_from logs_of taken rest)) (entry (suc (length list)) noted ∷ [])
    record_is noted = ap (λ (r : ℕ). item_records r (text.place + length text.bytes) (entry (suc (length list)) noted)) h.ring_is
        ∙ ap (λ (at : ℕ). item_records ring at (entry (suc (length list)) noted)) place
        ∙ sym (append-nil (item_records ring (start + text_size (items_from logs_of taken rest)) (entry (suc (length list)) noted)))
      where
        place : text.place + length text.bytes ≡ start + text_size (items_from logs_of taken rest)
        place = omega (arith, h.place, sized)

    of_item : (noted : Option (List Noted)) → log_text (log_records ring (start + text_size (items_from logs_of taken rest)) (item_of (suc (length list)) noted)) ≡ added noted (suc (length list)) text
    of_item None = refl
    of_item (Some noted) = ap log_text (sym (record_is noted))

    whole : log_text (log_records ring start (items_from logs_of taken rest ++ item_of (suc (length list)) (logs_of e))) ≡ text.bytes ++ added (logs_of e) (suc (length list)) text
    whole = ap log_text (records-append ring start (items_from logs_of taken rest) (item_of (suc (length list)) (logs_of e)))
        ∙ flat_map-append text_of (log_records ring start (items_from logs_of taken rest)) (log_records ring (start + text_size (items_from logs_of taken rest)) (item_of (suc (length list)) (logs_of e)))
        ∙ ap (λ (more : List ℕ). log_text (log_records ring start (items_from logs_of taken rest)) ++ more) (of_item (logs_of e))
        ∙ ap (λ (b : List ℕ). b ++ added (logs_of e) (suc (length list)) text) (sym h.bytes)

    -- where its records end
    all_end : (noted : Option (List Noted)) → ended noted (suc (length list)) text ≡ ends_of 0 (log_records ring start (items_from logs_of taken rest ++ item_of (suc (length list)) noted))
    all_end None = h.ends ∙ ap (λ (is : List Item). ends_of 0 (log_records ring start is)) (sym (append-nil (items_from logs_of taken rest)))
    all_end (Some noted) =
        ap (λ (records : List Record). ends_with (length text.bytes) text.ends (ends_of 0 records)) (record_is noted)
        ∙ ap (λ (b : List ℕ). ends_with (length b) text.ends (ends_of 0 (log_records ring (start + text_size (items_from logs_of taken rest)) (entry (suc (length list)) noted ∷ [])))) h.bytes
        ∙ ap (λ (l : List ℕ). ends_with (length (log_text (log_records ring start (items_from logs_of taken rest)))) l (ends_of 0 (log_records ring (start + text_size (items_from logs_of taken rest)) (entry (suc (length list)) noted ∷ [])))) h.ends
        ∙ ends-both (log_records ring start (items_from logs_of taken rest)) (log_records ring (start + text_size (items_from logs_of taken rest)) (entry (suc (length list)) noted ∷ []))
        ∙ ap (ends_of 0) (sym (records-append ring start (items_from logs_of taken rest) (entry (suc (length list)) noted ∷ [])))

    pub joined_text : (new : Text) → new.ring ≡ text.ring → new.place ≡ text.place → new.bytes ≡ text.bytes ++ added (logs_of e) (suc (length list)) text → new.ends ≡ ended (logs_of e) (suc (length list)) text → new.last ≡ suc (length list)
        → HasText ring (list ++ e ∷ []) taken points new
    joined_text new same place bytes ends last = record {
      ring_is = same ∙ h.ring_is;
      place = place ∙ h.place ∙ sym (ap (λ (es : List Recorded). end_of logs_of ring es points) longer_front);
      bytes = bytes ∙ sym whole ∙ sym (ap (λ (es : List Recorded). log_text (log_records ring (end_of logs_of ring es points) (items_from logs_of taken (drop taken (list ++ e ∷ []))))) longer_front ∙ ap (λ (is : List Item). log_text (log_records ring start is)) items);
      ends = ends ∙ all_end (logs_of e) ∙ sym (ap (λ (es : List Recorded). ends_of 0 (log_records ring (end_of logs_of ring es points) (items_from logs_of taken (drop taken (list ++ e ∷ []))))) longer_front ∙ ap (λ (is : List Item). ends_of 0 (log_records ring start is)) items);
      last = last ∙ (let k : suc (length list) ≡ length (list ++ e ∷ []) = omega (arith, length-append list (e ∷ [])) in k);
    }

  -- where groups have taken all, nothing waits
  pub nothing_waits : taken ≡ length list → text.bytes ≡ []
  nothing_waits is = h.bytes ∙ ap (λ (k : ℕ). log_text (log_records ring start (items_from logs_of k (drop k list)))) is
      ∙ ap (λ (es : List Recorded). log_text (log_records ring start (items_from logs_of (length list) es))) none

  no_ends_wait : taken ≡ length list → text.ends ≡ []
  no_ends_wait is = h.ends ∙ ap (λ (k : ℕ). ends_of 0 (log_records ring start (items_from logs_of k (drop k list)))) is
      ∙ ap (λ (es : List Recorded). ends_of 0 (log_records ring start (items_from logs_of (length list) es))) none

  -- ---- a SYNCPT goes past it

  pub pointed_text : (new : Text) → taken ≡ length list → new.ring ≡ text.ring → new.place ≡ text.place + 36 → new.bytes ≡ [] → new.ends ≡ text.ends → new.last ≡ text.last → HasText ring list (length list) (suc points) new
  pointed_text new is same place empty ends last = record {
    ring_is = same ∙ h.ring_is;
    place = omega (arith, place, h.place, ap (λ (k : ℕ). end_of logs_of ring (take k list) points) is);
    bytes = empty ∙ sym (ap (λ (es : List Recorded). log_text (log_records ring (end_of logs_of ring (take (length list) list) (suc points)) (items_from logs_of (length list) es))) none);
    ends = ends ∙ no_ends_wait is ∙ sym (ap (λ (es : List Recorded). ends_of 0 (log_records ring (end_of logs_of ring (take (length list) list) (suc points)) (items_from logs_of (length list) es))) none);
    last = last ∙ h.last;
  }
