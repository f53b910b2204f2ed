-- The map's control page is a function of the set: field by field.
use Rattle.std.proofs.Common.{◌≡◌, ◌<◌, ◌+◌, ◌-◌, ◌*◌, ◌/◌, ◌%◌, ◌^◌, ℕ, Bool, inl, inr, List, w8, sym, ap, ◌∙◌, arith}
use Rattle.std.specs.Prelude.{nat_le, if◌then◌else◌}
use Rattle.std.specs.Int.{cast_signed, cast_unsigned}
use Rattle.std.proofs.lemmas.Int.{of_z-to_z}
use Rattle.std.proofs.lemmas.Bool.{cases_lt}
use Rattle.std.proofs.lemmas.Nat.{pow_below}
use Rattle.std.proofs.lemmas.Grind.{same_number_lists}
use Rattle.jfs_bits.specs.Field.{field_of}
use Rattle.jfs_buddy.specs.Laws.{AreBytes}
use Rattle.jfs_buddy.proofs.Places.{SameAt, field-same, range-same}
use Rattle.jfs_dmapctl.specs.declared.map_control.MapControl.{MapControl}
use Rattle.jfs_bmap.specs.MapFile.{IsFirstPage, IsMapControlOf}
use Rattle.jfs_buddy.specs.Tree.{first_of}

-- places behind others
beside-same : (one other : List ℕ) (at n m : ℕ) → SameAt one other at n → SameAt one other (at + n) m → SameAt one other at (n + m)
beside-same one other at n m a b k past near = elim (cases_lt k (at + n)) [ inl h ↦ a k past h | inr h ↦ b k h (omega arith) ]

power-same : (k l : ℕ) → 2 ^ k ≡ 2 ^ l → k ≡ l
power-same k l e =
    elim (cases_lt k l) [
      | inl a ↦ absurd (omega (arith, pow_below k l a))
      | inr a ↦ elim (cases_lt l k) [ inl b ↦ absurd (omega (arith, pow_below l k b)) | inr b ↦ omega arith ]
    ]

-- the numbers that two canonical pages hold are the same
record SameShape (m n : MapControl) : Type 0 where
  numag : m.numag ≡ n.numag
  agl2size : m.agl2size ≡ n.agl2size
  aglevel : m.aglevel ≡ n.aglevel
  agheight : m.agheight ≡ n.agheight

same-shape : (blocks agsize : ℕ) (taken : ℕ → Bool) (m n : MapControl) → IsMapControlOf blocks agsize taken m → IsMapControlOf blocks agsize taken n → SameShape m n
same-shape blocks agsize taken m n a b =
    let l2 = power-same m.agl2size n.agl2size (sym a.agl2size ∙ b.agl2size) in
    let level : m.aglevel ≡ n.aglevel = a.shape.level ∙ ap (λ (z : ℕ). if nat_le z 23 then 0 else 1) l2 ∙ sym b.shape.level in
    record {
      numag = a.numag ∙ sym b.numag;
      agl2size = l2;
      aglevel = level;
      agheight = a.shape.height ∙ ap (λ (z : ℕ). (z - 13 - 10 * m.aglevel) / 2) l2 ∙ ap (λ (z : ℕ). (n.agl2size - 13 - 10 * z) / 2) level ∙ sym b.shape.height;
    }

-- two fields that have one value
between : (f g x y : ℕ) → x ≡ f → y ≡ g → x ≡ y → f ≡ g
between f g x y a b e = sym a ∙ e ∙ b

groups-same : (one other : List ℕ) → AreBytes one → AreBytes other → ((k : ℕ) → k < 128 → field_of one (56 + 8 * k) 8 ≡ field_of other (56 + 8 * k) 8) → SameAt one other 56 1024
groups-same one other bytes others same p past near =
    let k = (p - 56) / 8 in
    field-same (56 + 8 * k) 8 one other bytes others (same k (omega arith)) p (omega arith) (omega arith)

front-same : (blocks agsize : ℕ) (taken : ℕ → Bool) (one other : List ℕ) → AreBytes one → AreBytes other → IsFirstPage blocks agsize taken one → IsFirstPage blocks agsize taken other → SameAt one other 0 56
front-same blocks agsize taken one other bytes others a b =
    let m = a.numbers in
    let n = b.numbers in
    let mine = a.canonical in
    let theirs = b.canonical in
    let s = same-shape blocks agsize taken m n mine theirs in
    let field = λ (at width : ℕ) (x y : ℕ) (p : x ≡ field_of one at width) (q : y ≡ field_of other at width) (e : x ≡ y). field-same at width one other bytes others (between _ _ x y p q e) in
    let join = beside-same one other 0 in
    join 52 4
    (join 48 4
    (join 44 4
    (join 40 4
    (join 36 4
    (join 32 4
    (join 28 4
    (join 24 4
    (join 20 4
    (join 16 4
    (join 8 8
    (field 0 8 m.mapsize n.mapsize a.held.mapsize b.held.mapsize (mine.mapsize ∙ sym theirs.mapsize))
    (field 8 8 m.nfree n.nfree a.held.nfree b.held.nfree (mine.nfree ∙ sym theirs.nfree)))
    (field 16 4 m.l2nbperpage n.l2nbperpage a.held.l2nbperpage b.held.l2nbperpage (mine.l2nbperpage ∙ sym theirs.l2nbperpage)))
    (field 20 4 m.numag n.numag a.held.numag b.held.numag s.numag))
    (field 24 4 m.maxlevel n.maxlevel a.held.maxlevel b.held.maxlevel (mine.maxlevel ∙ sym theirs.maxlevel)))
    (field 28 4 m.maxag n.maxag a.held.maxag b.held.maxag (mine.maxag ∙ ap (λ (z : ℕ). z - 1) s.numag ∙ sym theirs.maxag)))
    (field 32 4 m.agpref n.agpref a.held.agpref b.held.agpref (mine.agpref ∙ sym theirs.agpref)))
    (field 36 4 m.aglevel n.aglevel a.held.aglevel b.held.aglevel s.aglevel))
    (field 40 4 m.agheight n.agheight a.held.agheight b.held.agheight s.agheight))
    (field 44 4 m.agwidth n.agwidth a.held.agwidth b.held.agwidth (mine.shape.width ∙ ap (λ (z : ℕ). 2 ^ ((z - 13 - 10 * m.aglevel) % 2)) s.agl2size ∙ ap (λ (z : ℕ). 2 ^ ((n.agl2size - 13 - 10 * z) % 2)) s.aglevel ∙ sym theirs.shape.width)))
    (field 48 4 m.agstart n.agstart a.held.agstart b.held.agstart (mine.shape.start ∙ ap (λ (z : ℕ). first_of (5 - z)) s.agheight ∙ sym theirs.shape.start)))
    (field 52 4 m.agl2size n.agl2size a.held.agl2size b.held.agl2size s.agl2size)

-- bytes with one value as signed numbers
sign-same : (x y : ℕ) → x < 256 → y < 256 → cast_signed w8 x ≡ cast_signed w8 y → x ≡ y
sign-same x y small little e = sym (of_z-to_z w8 x small) ∙ ap (cast_unsigned w8) e ∙ of_z-to_z w8 y little

field-small : (page : List ℕ) → AreBytes page → field_of page 1088 1 < 256
unfolding field_of
field-small page h = omega (arith, h 1088)

pub first-pages-same : (blocks agsize : ℕ) (taken : ℕ → Bool) (one other : List ℕ) → AreBytes one → AreBytes other → IsFirstPage blocks agsize taken one → IsFirstPage blocks agsize taken other → one ≡ other
first-pages-same blocks agsize taken one other bytes others a b =
    let m = a.numbers in
    let n = b.numbers in
    let mine = a.canonical in
    let theirs = b.canonical in
    let join = beside-same one other 0 in
    let all : SameAt one other 0 4096 =
    join 1089 3007
    (join 1088 1
    (join 1080 8
    (join 56 1024
    (front-same blocks agsize taken one other bytes others a b)
    (groups-same one other bytes others (λ k h. sym (a.held.agfree k h) ∙ (mine.agfree k h ∙ sym (theirs.agfree k h)) ∙ b.held.agfree k h)))
    (field-same 1080 8 one other bytes others (between _ _ m.agsize n.agsize a.held.agsize b.held.agsize (mine.group_size ∙ sym theirs.group_size))))
    (field-same 1088 1 one other bytes others (sign-same (field_of one 1088 1) (field_of other 1088 1) (field-small one bytes) (field-small other others) (sym a.held.maxfreebud ∙ (mine.maxfreebud ∙ sym theirs.maxfreebud) ∙ b.held.maxfreebud))))
    (range-same 1089 3007 one other (a.pad ∙ sym b.pad)) in
    same_number_lists one other (a.size ∙ sym b.size) (λ k h. all k (omega arith) (omega (arith, a.size, h)))
