-- The log's text, and what a group adds to it.
use Rattle.std.proofs.Common.{◌≡◌, ◌≤◌, ℕ, suc, ◌+◌, ◌-◌, ◌*◌, ◌/◌, List, [], ◌∷◌, ◌++◌, length, take, drop, replicate, Option, sym, ap, subst, ◌∙◌, arith, append_assoc, append-nil}
use Rattle.std.proofs.Math.Seq.{take-length, drop-length}
use Rattle.std.proofs.lemmas.List.{length-append, length-drop, length-replicate, take-append-le, drop-append-le}
use Rattle.std.proofs.lemmas.Grind.{flat_map-append}
use Rattle.jfs_disk.specs.Crash.{DiskState, Leaves}
use Rattle.jfs_disk.specs.Image.{Image}
use Rattle.jfs_logfmt.specs.Written.{text_of}
use Rattle.jfs_logpages.specs.declared.last.Last.{Last}
use Rattle.jfs_logpages.specs.Fresh.{first_record}
use Rattle.jfs_logpages.specs.Group.{Holds, position_of, number_after}
use Rattle.jfs_logpages.specs.Records.{log_text, ends_of}
use Rattle.jfs_logpages.specs.Ring.{ReadsPrefix, fresh_text}
use Rattle.jfs_records.specs.Records.{Noted}
use Rattle.jfs_records.specs.Entries.{Item, point, text_size, log_records}
use Rattle.jfs_records.proofs.ReadBack.{length-items, text_size-append, records-append}
use Rattle.jfs_groups.specs.Text.{AreCounts, FrontOf, item_of, text_with, items_from, items_with, end_of, HoldsText}

-- the zeros of a fresh log end here
abbrev pub start_of : ℕ → ℕ
start_of ring = 4080 * (ring - 1)

abbrev pub zeros_of : ℕ → List ℕ
zeros_of ring = replicate (start_of ring) 0

-- ---- sync counts

highest : (low high : ℕ) (points : List ℕ) → AreCounts low high points → low ≤ high
highest low high [] c = c
highest low high (p ∷ ps) (l, c) = let h = highest p high ps c in omega (arith, l, h)

pub higher : (low high more : ℕ) (points : List ℕ) → high ≤ more → AreCounts low high points → AreCounts low more points
higher low high more [] up c = omega (arith, up, c)
higher low high more (p ∷ ps) up (l, c) = (l, higher p high more ps up c)

pub counted : (low high : ℕ) (points : List ℕ) → AreCounts low high points → AreCounts low high (points ++ high ∷ [])
counted low high [] c = (c, omega arith)
counted low high (p ∷ ps) (l, c) = (l, counted p high ps c)

module _ {E : Type 0} (logs : E → Option (List Noted)) where
  pub from-append : (n : ℕ) (a b : List E) → items_from logs n (a ++ b) ≡ items_from logs n a ++ items_from logs (n + length a) b
  from-append n [] b = let k : n ≡ n + 0 = omega arith in ap (λ (m : ℕ). items_from logs m b) k
  from-append n (e ∷ es) b =
      let i = item_of (suc n) (logs e) in
      let k : suc n + length es ≡ n + suc (length es) = omega arith in
      ap (λ (l : List Item). i ++ l) (from-append (suc n) es b ∙ ap (λ (m : ℕ). items_from logs (suc n) es ++ items_from logs m b) k) ∙ sym (append_assoc i (items_from logs (suc n) es) (items_from logs (n + suc (length es)) b))

  -- the whole list's items are those of its front and then those of the rest
  pub whole_items : (list more : List E) → items_from logs 0 (list ++ more) ≡ items_from logs 0 list ++ items_from logs (length list) more
  whole_items list more = let k : 0 + length list ≡ length list = omega arith in from-append 0 list more ∙ ap (λ (m : ℕ). items_from logs 0 list ++ items_from logs m more) k

  pub end_grows : (ring points : ℕ) (list more : List E) → end_of logs ring (list ++ more) points ≡ end_of logs ring list points + text_size (items_from logs (length list) more)
  end_grows ring points list more = omega (arith, ap text_size (whole_items list more), text_size-append (items_from logs 0 list) (items_from logs (length list) more))

  -- ---- entries and syncpoints

  -- more entries stand behind all syncpoints
  pub with_more : (n : ℕ) (list more : List E) (points : List ℕ) → AreCounts n (n + length list) points → items_with logs n (list ++ more) points ≡ items_with logs n list points ++ items_from logs (n + length list) more
  with_more n list more [] c = from-append n list more
  with_more n list more (p ∷ ps) (low, c) =
      ap (λ (l : List E). items_from logs n l ++ point 0 ∷ items_with logs p (drop (p - n) (list ++ more)) ps) (take-append-le (p - n) list more within)
      ∙ ap (λ (l : List E). items_from logs n (take (p - n) list) ++ point 0 ∷ items_with logs p l ps) (drop-append-le (p - n) list more within)
      ∙ ap (λ (is : List Item). items_from logs n (take (p - n) list) ++ point 0 ∷ is) (with_more p (drop (p - n) list) more ps (subst (λ (k : ℕ). AreCounts p k ps) (sym same) c))
      ∙ ap (λ (k : ℕ). items_from logs n (take (p - n) list) ++ point 0 ∷ (items_with logs p (drop (p - n) list) ps ++ items_from logs k more)) same
      ∙ sym (append_assoc (items_from logs n (take (p - n) list)) (point 0 ∷ items_with logs p (drop (p - n) list) ps) (items_from logs (n + length list) more))
    where
      within : p - n ≤ length list
      within = let h = highest p (n + length list) ps c in omega (arith, h, low)

      same : p + length (drop (p - n) list) ≡ n + length list
      same = omega (arith, length-drop (p - n) list, within, low)

  -- and one more syncpoint behind all entries
  pub with_point : (n : ℕ) (list : List E) (points : List ℕ) → AreCounts n (n + length list) points → items_with logs n list (points ++ (n + length list) ∷ []) ≡ items_with logs n list points ++ point 0 ∷ []
  with_point n list [] c =
      let k : n + length list - n ≡ length list = omega arith in
      ap (λ (l : List E). items_from logs n l ++ point 0 ∷ items_from logs (n + length list) (drop (n + length list - n) list)) (ap (λ (m : ℕ). take m list) k ∙ take-length list)
      ∙ ap (λ (l : List E). items_from logs n list ++ point 0 ∷ items_from logs (n + length list) l) (ap (λ (m : ℕ). drop m list) k ∙ drop-length list)
  with_point n list (p ∷ ps) (low, c) =
      ap (λ (k : ℕ). items_from logs n (take (p - n) list) ++ point 0 ∷ items_with logs p (drop (p - n) list) (ps ++ k ∷ [])) (sym same)
      ∙ ap (λ (is : List Item). items_from logs n (take (p - n) list) ++ point 0 ∷ is) (with_point p (drop (p - n) list) ps (subst (λ (k : ℕ). AreCounts p k ps) (sym same) c))
      ∙ sym (append_assoc (items_from logs n (take (p - n) list)) (point 0 ∷ items_with logs p (drop (p - n) list) ps) (point 0 ∷ []))
    where
      within : p - n ≤ length list
      within = let h = highest p (n + length list) ps c in omega (arith, h, low)

      same : p + length (drop (p - n) list) ≡ n + length list
      same = omega (arith, length-drop (p - n) list, within, low)

  -- the same of a whole list
  pub all_more : (list more : List E) (points : List ℕ) → AreCounts 0 (length list) points → items_with logs 0 (list ++ more) points ≡ items_with logs 0 list points ++ items_from logs (length list) more
  all_more list more points c = let k : 0 + length list ≡ length list = omega arith in
      with_more 0 list more points (subst (λ (m : ℕ). AreCounts 0 m points) (sym k) c) ∙ ap (λ (m : ℕ). items_with logs 0 list points ++ items_from logs m more) k

  pub all_point : (list : List E) (points : List ℕ) → AreCounts 0 (length list) points → items_with logs 0 list (points ++ length list ∷ []) ≡ items_with logs 0 list points ++ point 0 ∷ []
  all_point list points c = let k : 0 + length list ≡ length list = omega arith in
      ap (λ (m : ℕ). items_with logs 0 list (points ++ m ∷ [])) (sym k) ∙ with_point 0 list points (subst (λ (m : ℕ). AreCounts 0 m points) (sym k) c)

  -- ---- the text

  -- a text with items ends where they do
  end_is : (ring : ℕ) (items : List Item) (last : Last) (ends : List ℕ) (image : Image) → Holds last (text_with ring items) ends image → position_of last ≡ start_of ring + text_size (point 0 ∷ items)
  end_is ring items last ends image h = omega (arith, h.page.size, length-append (zeros_of ring) (log_text (log_records ring (start_of ring) (point 0 ∷ items))), length-replicate {A = ℕ} (start_of ring) 0, length-items ring (start_of ring) (point 0 ∷ items))

  -- what is written behind a text stands behind its items
  behind : (ring : ℕ) (items more : List Item) (last : Last) (ends : List ℕ) (image : Image) (bytes : List ℕ) → Holds last (text_with ring items) ends image
      → bytes ≡ log_text (log_records ring (position_of last) more) → text_with ring items ++ bytes ≡ text_with ring (items ++ more)
  behind ring items more last ends image bytes h is =
      append_assoc (zeros_of ring) (log_text (log_records ring (start_of ring) (point 0 ∷ items))) bytes
      ∙ ap (λ (text : List ℕ). zeros_of ring ++ text)
      (ap (λ (text : List ℕ). log_text (log_records ring (start_of ring) (point 0 ∷ items)) ++ text) (is ∙ ap (λ (at : ℕ). log_text (log_records ring at more)) place)
      ∙ sym (flat_map-append text_of (log_records ring (start_of ring) (point 0 ∷ items)) (log_records ring (start_of ring + text_size (point 0 ∷ items)) more))
      ∙ ap log_text (sym (records-append ring (start_of ring) (point 0 ∷ items) more)))
    where
      place : position_of last ≡ start_of ring + text_size (point 0 ∷ items)
      place = end_is ring items last ends image h

  -- and where that failed, a front of it
  pub front_left : (ring : ℕ) (items more : List Item) (last : Last) (ends : List ℕ) (image : Image) (bytes group_ends : List ℕ) (state : DiskState) → last.ring ≡ ring → Holds last (text_with ring items) ends image
      → bytes ≡ log_text (log_records ring (position_of last) more) → group_ends ≡ ends_of 0 (log_records ring (position_of last) more)
      → Leaves (ReadsPrefix last.ring (text_with ring items) bytes group_ends (number_after last (length bytes))) state → Leaves (FrontOf ring items more) state
  front_left ring items more last ends image bytes group_ends state same h is ends_are leaves left crash =
      subst {A = ℕ × List ℕ × List ℕ × ℕ} (λ z. ReadsPrefix z.0 (text_with ring items) z.1 z.2 z.3 left) (λ k. (same k, (is ∙ ap (λ (at : ℕ). log_text (log_records ring at more)) place) k, (ends_are ∙ ap (λ (at : ℕ). ends_of 0 (log_records ring at more)) place) k, number k)) (leaves left crash)
    where
      place : position_of last ≡ start_of ring + text_size (point 0 ∷ items)
      place = end_is ring items last ends image h

      number : number_after last (length bytes) ≡ (start_of ring + text_size (point 0 ∷ items) + text_size more - 1) / 4080
      number =
          let size = ap (λ (b : List ℕ). length b) is ∙ length-items ring (position_of last) more in
          let some = h.page.starts in
          omega (arith, place, size, some, h.page.size)

  -- where a group is written behind a text, the log holds the text with the group's entries
  pub grown : (ring : ℕ) (points : List ℕ) (list more : List E) (last later : Last) (before after : Image) (bytes : List ℕ)
      → bytes ≡ log_text (log_records ring (position_of last) (items_from logs (length list) more))
      → HoldsText logs ring list points last before
      → ((front ends : List ℕ) → Holds last front ends before → (new : List ℕ) × Holds later (front ++ bytes) new after)
      → HoldsText logs ring (list ++ more) points later after
  grown ring points list more last later before after bytes is h write =
      let w = write (text_with ring (items_with logs 0 list points)) h.ends h.holds in
      let same = behind ring (items_with logs 0 list points) (items_from logs (length list) more) last h.ends before bytes h.holds is in
      record {
        counts = higher 0 (length list) (length (list ++ more)) points (omega (arith, length-append list more)) h.counts;
        ends = w.0;
        holds = subst (λ (text : List ℕ). Holds later text w.0 after) (same ∙ ap (λ (is : List Item). text_with ring is) (sym (all_more list more points h.counts))) w.1;
      }

  -- and with a SYNCPT more, where one is written
  pub pointed : (ring : ℕ) (points : List ℕ) (list : List E) (last later : Last) (before after : Image) (bytes : List ℕ)
      → bytes ≡ log_text (log_records ring (position_of last) (point 0 ∷ []))
      → HoldsText logs ring list points last before
      → ((front ends : List ℕ) → Holds last front ends before → (new : List ℕ) × Holds later (front ++ bytes) new after)
      → HoldsText logs ring list (points ++ length list ∷ []) later after
  pointed ring points list last later before after bytes is h write =
      let w = write (text_with ring (items_with logs 0 list points)) h.ends h.holds in
      let same = behind ring (items_with logs 0 list points) (point 0 ∷ []) last h.ends before bytes h.holds is in
      record {
        counts = counted 0 (length list) points h.counts;
        ends = w.0;
        holds = subst (λ (text : List ℕ). Holds later text w.0 after) (same ∙ ap (λ (is : List Item). text_with ring is) (sym (all_point list points h.counts))) w.1;
      }

  pub fresh_holds : (ring : ℕ) (last : Last) (ends : List ℕ) (image : Image) → Holds last (fresh_text ring (text_of first_record)) ends image → HoldsText logs ring [] [] last image
  fresh_holds ring last ends image h = record {
    counts = omega arith;
    ends = ends;
    holds = subst (λ (text : List ℕ). Holds last (replicate (4080 * (ring - 1)) 0 ++ text) ends image) (sym (append-nil (text_of first_record))) h;
  }
