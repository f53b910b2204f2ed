use Rattle.std.proofs.Common.{◌≡◌, ◌+◌, ◌*◌, ◌<◌, ◌≤◌, ◌&&◌, ◌||◌, ◌∙◌, ap, ap₂, ℕ, Bool, true, length, arith}
use Rattle.std.specs.Prelude.{nat_le, nat_lt}
use Rattle.jfs_bits.specs.Bits.{is_taken}
use Rattle.jfs_owners.proofs.Passes.{group_more, group_again, passed_owned, passed_shared, nested_on}
use Rattle.jfs_owners.proofs.words.add_run.Goals as goal

pub loop-owned-preserved : goal.loop-owned-preserved
loop-owned-preserved c =
    let order : 1024 * (c.loop-owned.group + 1) ≤ 1024 * c.first_open-group-in-loop-owned.result = (let f = c.first_open-group-in-loop-owned.ensures.from in omega (arith, f)) in
    let owned_then : (b : ℕ) → is_taken c.add_in_group.new.owned b ≡ ((nat_le c.args.first b && nat_lt b c.args.end) && nat_lt b (1024 * (c.loop-owned.group + 1)) || is_taken c.args.owned.now b) =
    (λ b. c.add_in_group.ensures.owned b
    ∙ ap (λ (x : Bool). (nat_le c.args.first b && nat_lt b c.args.end) && (nat_le (1024 * c.loop-owned.group) b && nat_lt b (1024 * c.loop-owned.group + 1024)) || x) (c.loop-owned.invariant.owned b)
    ∙ group_more (nat_le c.args.first b && nat_lt b c.args.end) (is_taken c.args.owned.now b) c.loop-owned.group b) in
    let shared_then : (b : ℕ) → is_taken c.add_in_group.new.shared b
    ≡ ((nat_le c.args.first b && nat_lt b c.args.end) && nat_lt b (1024 * (c.loop-owned.group + 1)) && is_taken c.args.owned.now b || is_taken c.args.shared.now b) =
    (λ b. c.add_in_group.ensures.shared b
    ∙ ap₂ (λ (x y : Bool). (nat_le c.args.first b && nat_lt b c.args.end) && (nat_le (1024 * c.loop-owned.group) b && nat_lt b (1024 * c.loop-owned.group + 1024)) && x || y)
    (c.loop-owned.invariant.owned b) (c.loop-owned.invariant.shared b)
    ∙ group_again (nat_le c.args.first b && nat_lt b c.args.end) (is_taken c.args.owned.now b) (is_taken c.args.shared.now b) c.loop-owned.group b) in
    let passed : (b : ℕ) → 1024 * (c.loop-owned.group + 1) ≤ b → b < 1024 * c.first_open-group-in-loop-owned.result → is_taken c.add_in_group.new.shared b ≡ true =
    (λ b. c.first_open-group-in-loop-owned.ensures.passed c.add_in_group.new.shared (c.add_in_group.ensures.passes c.loop-owned.invariant.passes) b) in
    record {
      owned = λ b. passed_owned (nat_le c.args.first b && nat_lt b c.args.end) (is_taken c.args.owned.now b) (is_taken c.add_in_group.new.owned b) b (1024 * (c.loop-owned.group + 1)) (1024 * c.first_open-group-in-loop-owned.result) order (owned_then b)
          (λ f l. nested_on ((nat_le c.args.first b && nat_lt b c.args.end) && nat_lt b (1024 * (c.loop-owned.group + 1))) (is_taken c.args.owned.now b) (is_taken c.args.shared.now b) (is_taken c.add_in_group.new.owned b) (is_taken c.add_in_group.new.shared b)
          (c.requires.nested b) (owned_then b) (shared_then b) (passed b f l));
      shared = λ b. passed_shared (nat_le c.args.first b && nat_lt b c.args.end) (is_taken c.args.owned.now b) (is_taken c.args.shared.now b) (is_taken c.add_in_group.new.shared b) b (1024 * (c.loop-owned.group + 1)) (1024 * c.first_open-group-in-loop-owned.result) order
          (c.requires.nested b) (shared_then b) (passed b);
      ends = c.first_open-group-in-loop-owned.ensures.ends;
      passes = c.first_open-group-in-loop-owned.ensures.passes c.add_in_group.new.shared (c.add_in_group.ensures.passes c.loop-owned.invariant.passes);
      sizes = c.add_in_group.auto.owned ∙ c.loop-owned.invariant.sizes;
      same = c.add_in_group.auto.shared ∙ c.loop-owned.invariant.same;
      groups = c.first_open-group-in-loop-owned.ensures.size ∙ c.add_in_group.ensures.size ∙ c.loop-owned.invariant.groups;
      from = (let f = c.loop-owned.invariant.from in omega (arith, order, f));
      most = (let m = c.first_open-group-in-loop-owned.ensures.most in let s = c.first_open-group-in-loop-owned.ensures.size in omega (arith, m, s));
    }
