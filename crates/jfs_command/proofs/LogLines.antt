-- The lines of records that are read once more, the oldest first.
use Rattle.std.proofs.Common.{◌≡◌, ℕ, List, [], ◌∷◌, ◌++◌, length, take, drop, map, reverse, Result, Ok, Err, OnOk, sym, ap, ◌∙◌, append_assoc}
use Rattle.std.proofs.lemmas.List.{append-nil, take-append-drop, reverse-append, length-map, length-reverse}
use Rattle.jfs_logpages.specs.Back.{Met, IsMet, AreMet, address_at}
use Rattle.jfs_command.specs.LogText.{record_line, record_lines}

pub on_ok : {T E : Type 0} (r : Result T E) (P Q : Type 0) → (P → Q) → OnOk r P → OnOk r Q
on_ok (Ok x) P Q f p = f p
on_ok (Err e) P Q f p = p

-- the bytes up to a record's end are those before it and its own
pub cut_at : (text bytes : List ℕ) (m : Met) (end : ℕ) → bytes ≡ text → m.end ≡ end → take end bytes ≡ take m.start (take m.end text) ++ drop m.start (take m.end text)
cut_at text bytes m end same at =
    ap (λ (b : List ℕ). take end b) same ∙ ap (λ (n : ℕ). take n text) (sym at) ∙ sym (take-append-drop m.start (take m.end text))

-- These records are left of all of them, whose ends stand in a list, the last one first; the lines of the others are written.
pub record Left (blocks : ℕ) (text : List ℕ) (ring first : ℕ) (all : List Met) (rest out : List ℕ) : Type 0 where
  pub from : ℕ
  pub ms : List Met
  pub met : AreMet blocks text from ms
  pub ends : map (λ (m : Met). m.end) ms ≡ reverse rest
  pub lines : record_lines ring first all ≡ out ++ record_lines ring first ms

-- the next one
pub record Next (blocks : ℕ) (text : List ℕ) (ring first : ℕ) (all : List Met) (newer out : List ℕ) (end : ℕ) : Type 0 where
  pub m : Met
  pub is : IsMet blocks text m
  pub at : m.end ≡ end
  pub more : (line : List ℕ) → line ≡ out ++ record_line (address_at ring first m.end) m.is → Left blocks text ring first all newer line

pub next_left : (blocks : ℕ) (text : List ℕ) (ring first : ℕ) (all : List Met) (rest newer out : List ℕ) (end : ℕ) → rest ≡ newer ++ end ∷ [] → Left blocks text ring first all rest out → Next blocks text ring first all newer out end
next_left blocks text ring first all rest newer out end last left = by left.ms left.met (left.ends ∙ ap (λ (r : List ℕ). reverse r) last ∙ reverse-append newer (end ∷ [])) left.lines
  where
    by : (ms : List Met) → AreMet blocks text left.from ms → map (λ (m : Met). m.end) ms ≡ end ∷ reverse newer → record_lines ring first all ≡ out ++ record_lines ring first ms → Next blocks text ring first all newer out end
    by [] met ends lines = absurd cc
    by (m ∷ ms) met ends lines = record {
      m = m;
      is = met.1;
      at = cc;
      more = λ line is. record {
        from = m.end;
        ms = ms;
        met = met.2;
        ends = cc;
        lines = lines ∙ sym (append_assoc out (record_line (address_at ring first m.end) m.is) (record_lines ring first ms)) ∙ ap (λ (z : List ℕ). z ++ record_lines ring first ms) (sym is);
      };
    }

-- none is left
pub none_left : (blocks : ℕ) (text : List ℕ) (ring first : ℕ) (all : List Met) (rest out : List ℕ) → length rest ≡ 0 → Left blocks text ring first all rest out → out ≡ record_lines ring first all
none_left blocks text ring first all rest out none left = by left.ms left.lines (let e = ap (λ (r : List ℕ). length r) left.ends in sym (length-map left.ms (λ (m : Met). m.end)) ∙ e ∙ length-reverse rest ∙ none)
  where
    by : (ms : List Met) → record_lines ring first all ≡ out ++ record_lines ring first ms → length ms ≡ 0 → out ≡ record_lines ring first all
    by [] lines few = sym (lines ∙ append-nil out)
    by (m ∷ ms) lines few = absurd cc
