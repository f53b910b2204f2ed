use Rattle.std.proofs.Common.{◌≡◌, ◌++◌, ℕ, List, length, ◌∙◌, ap, subst, arith}
use Rattle.std.proofs.lemmas.List.{length-append}
use Rattle.jfs_logpages.specs.Ring.{AreEnds, ends_with}
use Rattle.jfs_logpages.proofs.Joined.{both_records}
use Rattle.jfs_logpages.proofs.Records.{ends-of}
use Rattle.jfs_logpages.proofs.group_text.GroupText.join.Goals as goal

pub push_ends-requires-clause-ends : goal.push_ends-requires-clause-ends
push_ends-requires-clause-ends c =
    let more = c.args.more.now in
    let size : length more.bytes.items ≡ c.len.result = omega (arith, c.len.ensures) in
    rw (c.ends.ensures) (subst (λ (n : ℕ). AreEnds 0 n more.ends.items) size (ends-of 0 more.bytes.items more.ends.items more.records))

pub invariant_of-self : goal.invariant_of-self
invariant_of-self c =
    let old = c.args.self.now in
    let more = c.args.more.now in
    let text = c.in-Ok.ensures.items ∙ ap (λ (l : List ℕ). old.bytes.items ++ l) c.bytes.ensures in
    let ends = c.push_ends.ensures ∙ ap (λ (n : ℕ). ends_with n old.ends.items c.ends.result.now) (omega (arith, c.len-start.ensures)) ∙ ap (λ (l : List ℕ). ends_with (length old.bytes.items) old.ends.items l) c.ends.ensures in
    record {
      records = both_records old.bytes.items old.ends.items more.bytes.items more.ends.items c.extend_from_slice.new.self.items c.push_ends.new.ends.items text ends old.records more.records;
      small = omega (arith, ap (λ (l : List ℕ). length l) text, length-append old.bytes.items more.bytes.items, c.requires.small);
    }
