-- A log that was just made holds its one SYNCPT behind zeros, whatever front was said of it.
use Rattle.std.proofs.Common.{◌≡◌, ◌≤◌, ℕ, suc, ◌+◌, ◌-◌, ◌*◌, List, ◌++◌, length, get_or, replicate, refl, sym, ap, subst, ◌∙◌, arith}
use Rattle.std.proofs.lemmas.List.{length-append, length-replicate, get_or-append-add}
use Rattle.jfs_disk.specs.Image.{Image}
use Rattle.jfs_logpages.specs.declared.last.Last.{Last}
use Rattle.jfs_logpages.specs.Group.{Holds}
use Rattle.jfs_logpages.specs.Ring.{IsWritten, IsLast, IsRing, last_end, eor_at, fresh_text, fresh_ends}
use Rattle.jfs_logpages.proofs.Grown.{last_end-all}
use Rattle.jfs_logpages.proofs.Filled.{fresh-is-last}

module _ (ring : ℕ) (last : Last) (image : Image) (front bytes ends : List ℕ) (some : 2 ≤ ring) (sized : length bytes ≡ 36) (begins : length front ≡ 4080 * (ring - 1)) (ring_is : last.ring ≡ ring) (h : Holds last (front ++ bytes) ends image)
    (fresh : IsRing ring (fresh_text ring bytes) (fresh_ends ring) (ring - 1) image) where
  long : length (front ++ bytes) ≡ 4080 * (ring - 1) + 36
  long = omega (arith, length-append front bytes, begins, sized)

  number : last.number ≡ ring - 1
  number = let starts = h.page.starts in let stops = h.page.stops in omega (arith, h.page.size, long, starts, stops)

  fill : last.fill ≡ 36
  fill = omega (arith, h.page.size, long, number)

  -- both texts end on the last page
  end : last_end ends (4080 * suc (ring - 1)) ≡ 4080 * (ring - 1) + 36
  end = omega (arith, last_end-all 0 (length (front ++ bytes)) ends (4080 * suc (ring - 1)) h.page.ended (omega (arith, long)), long)

  fresh_end : last_end (fresh_ends ring) (4080 * suc (ring - 1)) ≡ 4080 * (ring - 1) + 36
  fresh_end = omega (arith, last_end-all 0 (4080 * (ring - 1) + 36) (fresh_ends ring) (4080 * suc (ring - 1)) (omega arith, refl) (omega arith))

  eor : eor_at ends (ring - 1) ≡ eor_at (fresh_ends ring) (ring - 1)
  eor = omega (arith, end, fresh_end)

  was : IsWritten (front ++ bytes) ends (ring - 1) last.page.0
  was = subst (λ (n : ℕ). IsWritten (front ++ bytes) ends n last.page.0) number h.page.page

  same : (i : ℕ) → get_or (front ++ bytes) (4080 * (ring - 1) + i) 0 ≡ get_or (fresh_text ring bytes) (4080 * (ring - 1) + i) 0
  same i = ap (λ (n : ℕ). get_or (front ++ bytes) (n + i) 0) (sym begins) ∙ get_or-append-add front bytes i 0
      ∙ sym (ap (λ (n : ℕ). get_or (fresh_text ring bytes) (n + i) 0) (sym (length-replicate {A = ℕ} (4080 * (ring - 1)) 0)) ∙ get_or-append-add (replicate (4080 * (ring - 1)) 0) bytes i 0)

  fresh_long : length (fresh_text ring bytes) ≡ 4080 * (ring - 1) + 36
  fresh_long = omega (arith, length-append (replicate (4080 * (ring - 1)) 0) bytes, length-replicate {A = ℕ} (4080 * (ring - 1)) 0, sized)

  page : IsWritten (fresh_text ring bytes) (fresh_ends ring) (ring - 1) last.page.0
  page = record {
    size = was.size;
    number = was.number;
    head_eor = was.head_eor ∙ eor;
    tail_eor = was.tail_eor ∙ eor;
    begins = λ i small within. was.begins i small (omega (arith, within, fresh_long, long)) ∙ same i;
  }

  is_last : IsLast last.ring last.number last.fill last.page.0 (fresh_text ring bytes) (fresh_ends ring)
  is_last = subst (λ (r : ℕ). IsLast r last.number last.fill last.page.0 (fresh_text ring bytes) (fresh_ends ring)) (sym ring_is)
      (subst (λ (n : ℕ). IsLast ring n last.fill last.page.0 (fresh_text ring bytes) (fresh_ends ring)) (sym number)
      (subst (λ (f : ℕ). IsLast ring (ring - 1) f last.page.0 (fresh_text ring bytes) (fresh_ends ring)) (sym fill) (fresh-is-last ring bytes last.page.0 some sized page)))

  pub fresh_holds : Holds last (fresh_text ring bytes) (fresh_ends ring) image
  fresh_holds = record {
    page = is_last;
    ring = subst (λ (r : ℕ). IsRing r (fresh_text ring bytes) (fresh_ends ring) last.number image) (sym ring_is) (subst (λ (n : ℕ). IsRing ring (fresh_text ring bytes) (fresh_ends ring) n image) (sym number) fresh);
  }
