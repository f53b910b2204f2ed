use Rattle.std.proofs.Common.{◌≡◌, ◌≤◌, ◌+◌, ◌*◌, ◌∙◌, ◌⊎◌, ℕ, List, length, inl, inr, refl, sym, ap, of_z, w8, arith}
use Rattle.std.specs.Prelude.{ℤ}
use Rattle.std.specs.Int.{cast_signed}
use Rattle.std.proofs.lemmas.Int.{to_z-of_z}
use Rattle.byteorder.specs.Endian.{little_bytes}
use Rattle.jfs_bits.specs.Field.{field_of, range_of}
use Rattle.jfs_bits.proofs.Ranges.{range_of-put_other}
use Rattle.jfs_bits.proofs.Words.{field_of-put_same, field_of-put_other}
use Rattle.jfs_buddy.proofs.Parts.{field-from_range}
use Rattle.jfs_dmapctl.proofs.Fronts.{Front, front-put}
use Rattle.jfs_dmapctl.proofs.map_control.write_map_control.Goals as goal

size_of : (c : goal.After-put_u8) → length c.put_groups.new.bytes ≡ 4096
size_of c = omega arith

front_is : (c : goal.After-put_u8) → Front c.args.m.now c.args.page.now.0 c.put_front.new.bytes
front_is c = rw c.put_front.ensures.bytes (front-put c.args.m.now c.args.page.now.0 (omega arith) c.put_front.ensures.fits)

-- the two last numbers are put beside
range_stays : (c : goal.After-put_u8) (p n : ℕ) → (p + n ≤ 1080) ⊎ (1089 ≤ p) → range_of c.put_u8.new.bytes p n ≡ range_of c.put_groups.new.bytes p n
range_stays c p n side =
    let size = size_of c in
    ap (λ (z : List ℕ). range_of z p n) c.put_u8.ensures.bytes
    ∙ range_of-put_other p n 1088 (little_bytes 1 c.cast_unsigned.result) c.put_u64.new.bytes (omega (arith, size)) (elim side [ inl a ↦ inl (omega arith) | inr a ↦ inr (omega arith) ])
    ∙ ap (λ (z : List ℕ). range_of z p n) c.put_u64.ensures.bytes
    ∙ range_of-put_other p n 1080 (little_bytes 8 c.args.m.now.agsize) c.put_groups.new.bytes (omega (arith, size)) (elim side [ inl a ↦ inl (omega arith) | inr a ↦ inr (omega arith) ])

front_stays : (c : goal.After-put_u8) (p n : ℕ) → p + n ≤ 56 → field_of c.put_u8.new.bytes p n ≡ field_of c.put_front.new.bytes p n
front_stays c p n h = field-from_range c.put_u8.new.bytes c.put_front.new.bytes p n (range_stays c p n (inl (omega arith)) ∙ c.put_groups.ensures.beside p n (inl h))

pub returns-clause-control : goal.returns-clause-control
returns-clause-control c =
    let f = front_is c in
    let size = size_of c in
    let read : cast_signed w8 (of_z w8 c.args.m.now.maxfreebud) ≡ c.args.m.now.maxfreebud = to_z-of_z w8 c.args.m.now.maxfreebud (omega arith) in
    let field = λ (p n : ℕ) (h : p + n ≤ 56). front_stays c p n h in
    record {
      mapsize = sym (field 0 8 (omega arith) ∙ f.mapsize);
      nfree = sym (field 8 8 (omega arith) ∙ f.nfree);
      l2nbperpage = sym (field 16 4 (omega arith) ∙ f.l2nbperpage);
      numag = sym (field 20 4 (omega arith) ∙ f.numag);
      maxlevel = sym (field 24 4 (omega arith) ∙ f.maxlevel);
      maxag = sym (field 28 4 (omega arith) ∙ f.maxag);
      agpref = sym (field 32 4 (omega arith) ∙ f.agpref);
      aglevel = sym (field 36 4 (omega arith) ∙ f.aglevel);
      agheight = sym (field 40 4 (omega arith) ∙ f.agheight);
      agwidth = sym (field 44 4 (omega arith) ∙ f.agwidth);
      agstart = sym (field 48 4 (omega arith) ∙ f.agstart);
      agl2size = sym (field 52 4 (omega arith) ∙ f.agl2size);
      agfree = λ k h. sym (field-from_range c.put_u8.new.bytes c.put_groups.new.bytes (56 + 8 * k) 8 (range_stays c (56 + 8 * k) 8 (inl (omega arith))) ∙ c.put_groups.ensures.counts k h);
      agsize = sym (ap (λ (z : List ℕ). field_of z 1080 8) c.put_u8.ensures.bytes
          ∙ field_of-put_other 1080 8 1088 (little_bytes 1 c.cast_unsigned.result) c.put_u64.new.bytes (omega (arith, size)) (inl (omega arith))
          ∙ ap (λ (z : List ℕ). field_of z 1080 8) c.put_u64.ensures.bytes
          ∙ field_of-put_same 1080 8 c.args.m.now.agsize c.put_groups.new.bytes refl (omega (arith, size)) c.put_u64.ensures.fits);
      maxfreebud = sym (ap (λ (z : ℕ). cast_signed w8 z) (ap (λ (z : List ℕ). field_of z 1088 1) c.put_u8.ensures.bytes
          ∙ field_of-put_same 1088 1 c.cast_unsigned.result c.put_u64.new.bytes refl (omega (arith, size)) c.put_u8.ensures.fits
          ∙ c.cast_unsigned.ensures) ∙ ap (λ (z : ℤ). cast_signed w8 (of_z w8 z)) read ∙ read);
    }

pub returns-clause-pad : goal.returns-clause-pad
returns-clause-pad c = range_stays c 1089 3007 (inr (omega arith)) ∙ c.put_groups.ensures.beside 1089 3007 (inr (omega arith)) ∙ (front_is c).pad
