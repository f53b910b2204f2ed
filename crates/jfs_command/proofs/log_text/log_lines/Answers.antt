use Rattle.std.proofs.Common.{◌≡◌, ℕ, List, ◌∷◌, ◌++◌, length, string_bytes, sym, ap, ◌∙◌}
use Rattle.std.proofs.lemmas.List.{length-map, length-reverse}
use Rattle.jfs_logpages.specs.Back.{Met}
use Rattle.jfs_command.specs.LogText.{last_line, record_lines}
use Rattle.jfs_command.proofs.LogLines.{next_left, none_left}
use Rattle.jfs_command.proofs.log_text.log_lines.Goals as goal

pub push_record-requires : goal.push_record-requires
push_record-requires c =
    let read = c.args.read.now in
    let left = c.loop-end.invariant (c.requires.0 ∷ c.requires.1) c.requires.0.start c.requires.2 c.requires.3 in
    let next = next_left c.args.blocks read.bytes.items read.ring read.first (c.requires.0 ∷ c.requires.1) c.loop-end.rest.now c.in-Some.newer.now (string_bytes c.loop-end.out) c.in-Some.end.now c.in-Some.ensures.cases.0 left in
    (next.m, next.is, next.at)

pub loop-end-preserved : goal.loop-end-preserved
loop-end-preserved c = λ all from met ends.
    let read = c.args.read.now in
    let next = next_left c.args.blocks read.bytes.items read.ring read.first all c.loop-end.rest.now c.in-Some.newer.now (string_bytes c.loop-end.out) c.in-Some.end.now c.in-Some.ensures.cases.0 (c.loop-end.invariant all from met ends) in
    next.more (string_bytes c.push_record.new.out) (c.in_ok-push_record.ensures next.m next.is next.at)

pub returns : goal.returns
returns c = λ ms from met ends.
    let read = c.args.read.now in
    let lines = none_left c.args.blocks read.bytes.items read.ring read.first ms c.loop-end.rest.now (string_bytes c.loop-end.out) c.in_default.ensures.cases (c.loop-end.invariant ms from met ends) in
    let count : length read.ends.items ≡ length ms = sym (length-reverse read.ends.items) ∙ sym (ap (λ (es : List ℕ). length es) ends) ∙ length-map ms (λ (m : Met). m.end) in
    let before = record_lines read.ring read.first ms in
    c.in_ok-push_last.ensures ∙ ap (λ (out : List ℕ). out ++ last_line (length c.ends.result.now) c.end.result) lines
    ∙ ap (λ (n : ℕ). before ++ last_line n c.end.result) (ap (λ (es : List ℕ). length es) c.ends.ensures ∙ count)
    ∙ ap (λ (end : ℕ). before ++ last_line (length ms) end) c.end.ensures
