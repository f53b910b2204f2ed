use Rattle.std.proofs.Common.{◌≡◌, ◌∙◌, ℕ, List, length, get_or, inl, inr, ap, arith}
use Rattle.std.proofs.lemmas.Bool.{cases_eq}
use Rattle.jfs_bits.specs.Field.{range_of}
use Rattle.jfs_iag.specs.Control.{group_at, no_group}
use Rattle.jfs_iag.proofs.Heads.{group-put, group-beside, group-same}
use Rattle.jfs_iag.proofs.control.put_groups.Goals as goal

pub loop-g-preserved : goal.loop-g-preserved
loop-g-preserved c =
    let k = c.loop-g.g in
    let group = get_or c.args.groups.now k no_group in
    let size : length c.loop-g.bytes ≡ 4096 = omega (arith, c.requires) in
    let put = c.put_group.ensures.bytes in
    record {
      value = λ j h. elim (cases_eq j k) [
        | inl e ↦ rw e (ap (λ (z : List ℕ). group_at z k) put ∙ group-put k group c.loop-g.bytes (omega arith) size c.put_group.ensures.fits)
        | inr n ↦ ap (λ (z : List ℕ). group_at z j) put ∙ group-same k j group c.loop-g.bytes (omega arith) n size ∙ c.loop-g.invariant.value j (omega arith)
      ];
      beside = λ p n h. ap (λ (z : List ℕ). range_of z p n) put
          ∙ group-beside k group c.loop-g.bytes p n (omega arith) size (inl (omega arith))
          ∙ c.loop-g.invariant.beside p n h;
    }
