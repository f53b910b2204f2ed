use Rattle.std.proofs.Common.{◌+◌, ◌-◌, ◌*◌, length, sym, ap, ◌∙◌, subst, ℕ, ◌≡◌, arith}
use Rattle.std.specs.Prelude.{min}
use Rattle.jfs_dtpage.specs.Form.{first_units, more_slots}
use Rattle.jfs_dtpage.specs.Slots.{units_at, follow, gather, slots_for, AreWithin}
use Rattle.jfs_dtpage.specs.Page.{length_of}
use Rattle.jfs_dtpage.proofs.Entries.{first_within, further_within, name_fits, name_read}
use Rattle.jfs_dtpage.proofs.read.read_name.Goals as goal

pub length_of-requires : goal.length_of-requires
length_of-requires c = first_within c.args.leaf c.args.bytes.now c.args.slot c.requires.within

pub copy_units-requires : goal.copy_units-requires
copy_units-requires c =
    let w = first_within c.args.leaf c.args.bytes.now c.args.slot c.requires.within in
    let here : length c.split_at_mut-first.result.0.now ≡ min c.from-units.result c.first_units.result = omega (arith, c.split_at_mut-first.ensures.front_len, c.min.ensures) in
    name_fits c.args.leaf c.args.slot c.start_of.result c.link_at.result c.first_units.result c.from-units.result (length c.split_at_mut-first.result.0.now) (length c.args.bytes.now) w c.start_of.ensures c.link_at.ensures.value c.first_units.ensures.value here

pub link_of-requires : goal.link_of-requires
link_of-requires c = first_within c.args.leaf c.args.bytes.now c.args.slot c.requires.within

pub gather-requires : goal.gather-requires
gather-requires c =
    let rest : length_of c.args.leaf c.args.bytes.now c.args.slot - first_units c.args.leaf ≡ length c.split_at_mut-first.result.1.now =
    omega (arith, c.length_of.ensures, c.from-units.ensures, c.first_units.ensures.value, c.min.ensures, c.split_at_mut-name.ensures.front_len, c.split_at_mut-first.ensures.back_len) in
    subst (λ (k : ℕ). AreWithin c.args.bytes.now (follow c.args.bytes.now c.link_of.result (slots_for k))) rest
    (subst (λ (s : ℕ). AreWithin c.args.bytes.now (follow c.args.bytes.now s (more_slots c.args.leaf (length_of c.args.leaf c.args.bytes.now c.args.slot)))) (sym c.link_of.ensures) (further_within c.args.leaf c.args.bytes.now c.args.slot c.requires.within))

pub returns-clause-name : goal.returns-clause-name
returns-clause-name c =
    let units : c.from-units.result ≡ length_of c.args.leaf c.args.bytes.now c.args.slot = omega (arith, c.length_of.ensures, c.from-units.ensures) in
    let first : length c.split_at_mut-first.result.0.now ≡ min c.from-units.result (first_units c.args.leaf) = omega (arith, c.split_at_mut-first.ensures.front_len, c.min.ensures, c.first_units.ensures.value) in
    let further : length c.split_at_mut-first.result.1.now ≡ c.from-units.result - first_units c.args.leaf =
    omega (arith, c.first_units.ensures.value, c.min.ensures, c.split_at_mut-name.ensures.front_len, c.split_at_mut-first.ensures.back_len) in
    let one : length c.copy_units.new.into ≡ length c.split_at_mut-first.result.0.now = search (c.copy_units.auto.into) in
    let two : length c.gather.new.into ≡ length c.split_at_mut-first.result.1.now = search (c.gather.auto.into) in
    name_read c.args.leaf c.args.bytes.now c.args.slot c.from-units.result c.copy_units.new.into c.gather.new.into c.split_at_mut-name.result.1.now units (one ∙ first) (two ∙ further)
    (c.copy_units.ensures ∙ ap (λ (n : ℕ). units_at c.args.bytes.now (c.start_of.result + c.link_at.result + 2) n) (sym one)
    ∙ ap (λ (p : ℕ). units_at c.args.bytes.now (p + c.link_at.result + 2) (length c.copy_units.new.into)) c.start_of.ensures
    ∙ ap (λ (p : ℕ). units_at c.args.bytes.now (32 * c.args.slot + p + 2) (length c.copy_units.new.into)) c.link_at.ensures.value)
    (c.gather.ensures ∙ ap (λ (n : ℕ). gather c.args.bytes.now c.link_of.result (slots_for n) n) (sym two) ∙ ap (λ (s : ℕ). gather c.args.bytes.now s (slots_for (length c.gather.new.into)) (length c.gather.new.into)) c.link_of.ensures)
