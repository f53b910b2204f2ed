-- Findings that were put in order, or weren't.
use Rattle.std.proofs.Common.{◌⊎◌, List, inl, inr}
use Rattle.std.specs.List.{Contains}
use Rattle.jfs_findings.specs.Gains.{Gains, HasSame}
use Rattle.jfs_findings.specs.declared.finding.Finding.{Finding}

pub left_alone : (found : List Finding) → HasSame found found
left_alone found = record { all = λ f h. h; only = λ f h. h }

-- what was gained is there however often each stands there
pub gains_condensed : (is : Finding → Type 0) (old found new : List Finding) → Gains is old found → HasSame found new → Gains is old new
gains_condensed is old found new g s = record {
  kept = λ f h. s.all f (g.kept f h);
  all = λ f h. s.all f (g.all f h);
  only = λ f h. g.only f (s.only f h);
}

-- nor how often what was there before
pub gains_after : (is : Finding → Type 0) (old found new : List Finding) → HasSame old found → Gains is found new → Gains is old new
gains_after is old found new s g = record {
  kept = λ f h. g.kept f (s.all f h);
  all = g.all;
  only = λ f h. elim (g.only f h) [ inl k ↦ inl (s.only f k) | inr k ↦ inr k ];
}
