-- Records that are read once more from a log's text, the oldest first.
use Rattle.std.proofs.Common.{◌≡◌, ◌<◌, ◌^◌, ℕ, Bool, true, List, [], ◌∷◌, ◌++◌, length, take, drop, map, reverse, refl, sym, ap, ◌∙◌, append_assoc, arith}
use Rattle.std.specs.List.{AllByRecursion}
use Rattle.std.proofs.lemmas.List.{append-nil, take-append-drop, reverse-append, length-map, length-reverse}
use Rattle.jfs_disk.specs.Image.{Image}
use Rattle.jfs_logfmt.specs.declared.log_record.Record.{Record}
use Rattle.jfs_logfmt.specs.declared.log_record.Record.TheVariants as records
use Rattle.jfs_logfmt.specs.Rules.{IsRecordOf}
use Rattle.jfs_logpages.specs.Back.{Met, IsMet, AreMet}
use Rattle.jfs_logpages.specs.ReadLog.{IsReadAs}
use Rattle.jfs_logpages.specs.declared.ring_text.RingText.{RingText}
use Rattle.jfs_records.specs.Limits.{HasPage}
use Rattle.jfs_records.specs.FromText.{AreRecords}

abbrev pub is_of : Met → Record
is_of m = m.is

abbrev pub end_of : Met → ℕ
end_of m = m.end

-- the bytes up to a record's end are those before it and its own
pub cut_at : (text bytes : List ℕ) (m : Met) (end : ℕ) → bytes ≡ text → m.end ≡ end → take end bytes ≡ take m.start (take m.end text) ++ drop m.start (take m.end text)
cut_at text bytes m end same at =
    ap (λ (b : List ℕ). take end b) same ∙ ap (λ (n : ℕ). take n text) (sym at) ∙ sym (take-append-drop m.start (take m.end text))

-- of all records these are read, and the others are left, whose ends stand in a list, the last one first
pub record IsRead (blocks : ℕ) (text : List ℕ) (all : List Met) (done : List Record) (rest : List ℕ) : Type 0 where
  pub from : ℕ
  pub front : List Met
  pub back : List Met
  pub parts : all ≡ front ++ back
  pub done_is : done ≡ map is_of front
  pub met : AreMet blocks text from back
  pub ends : map end_of back ≡ reverse rest

-- the next one
pub record Next (blocks : ℕ) (text : List ℕ) (all : List Met) (done : List Record) (newer : List ℕ) (end : ℕ) : Type 0 where
  pub m : Met
  pub is : IsMet blocks text m
  pub at : m.end ≡ end
  pub more : (r : Record) → r ≡ m.is → IsRead blocks text all (done ++ r ∷ []) newer

map-more : (front : List Met) (m : Met) → map is_of (front ++ m ∷ []) ≡ map is_of front ++ m.is ∷ []
map-more [] m = refl
map-more (x ∷ xs) m = ap (λ (rs : List Record). x.is ∷ rs) (map-more xs m)

pub next_read : (blocks : ℕ) (text : List ℕ) (all : List Met) (done : List Record) (rest newer : List ℕ) (end : ℕ) → rest ≡ newer ++ end ∷ [] → IsRead blocks text all done rest → Next blocks text all done newer end
next_read blocks text all done rest newer end last read = by read.back read.parts read.met (read.ends ∙ ap (λ (r : List ℕ). reverse r) last ∙ reverse-append newer (end ∷ []))
  where
    by : (ms : List Met) → all ≡ read.front ++ ms → AreMet blocks text read.from ms → map end_of ms ≡ end ∷ reverse newer → Next blocks text all done newer end
    by [] parts met ends = absurd cc
    by (m ∷ ms) parts met ends = record {
      m = m;
      is = met.1;
      at = cc;
      more = λ r is. record {
        from = m.end;
        front = read.front ++ m ∷ [];
        back = ms;
        parts = parts ∙ sym (append_assoc read.front (m ∷ []) ms);
        done_is = ap (λ (rs : List Record). rs ++ r ∷ []) read.done_is ∙ ap (λ (x : Record). map is_of read.front ++ x ∷ []) is ∙ sym (map-more read.front m);
        met = met.2;
        ends = cc;
      };
    }

-- none is left
pub all_read : (blocks : ℕ) (text : List ℕ) (all : List Met) (done : List Record) (rest : List ℕ) → length rest ≡ 0 → IsRead blocks text all done rest → done ≡ map is_of all
all_read blocks text all done rest none read = by read.back read.parts (let e = ap (λ (r : List ℕ). length r) read.ends in sym (length-map read.back end_of) ∙ e ∙ length-reverse rest ∙ none)
  where
    by : (ms : List Met) → all ≡ read.front ++ ms → length ms ≡ 0 → done ≡ map is_of all
    by [] parts few = read.done_is ∙ ap (λ (xs : List Met). map is_of xs) (sym (parts ∙ append-nil read.front))
    by (m ∷ ms) parts few = absurd cc

-- nothing is read yet
pub none_read : (blocks : ℕ) (read : RingText) (ms : List Met) → AreRecords blocks read ms → IsRead blocks read.bytes.items ms [] read.ends.items
none_read blocks read ms are = record { from = are.from; front = []; back = ms; parts = refl; done_is = refl; met = are.met; ends = are.ends }

-- a record of a volume has its page on it
pub on_volume : (blocks : ℕ) (r : Record) → blocks < 2 ^ 32 → IsRecordOf blocks r → HasPage r
on_volume blocks (records.Redo tid back fileset inode kind new_page at ranges) most is = grind arith
on_volume blocks (records.NoRedo tid back fileset inode kind at) most is = grind arith
on_volume blocks (records.Update tid back fileset inode alloc list) most is = tt
on_volume blocks (records.Commit tid back) most is = tt
on_volume blocks (records.SyncPt sync) most is = tt

pub all-more : (P : Record → Type 0) (rs : List Record) (r : Record) → AllByRecursion P rs → P r → AllByRecursion P (rs ++ r ∷ [])
all-more P [] r all is = (is, tt)
all-more P (x ∷ xs) r all is = (all.0, all-more P xs r all.1 is)

-- a log that was read has records
pub of_reading : (pages blocks : ℕ) (log : Image) (read : RingText) → IsReadAs pages blocks log read → (ms : List Met) × AreRecords blocks read ms
of_reading pages blocks log read is = (is.m ∷ is.ms, record { from = is.m.start; met = (refl, is.records.is, is.records.behind.met); ends = is.ends })
