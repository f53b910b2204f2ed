use Rattle.std.proofs.Common.{◌≡◌, ℕ, ◌++◌, take, drop, string_bytes, sym, ap, ◌∙◌}
use Rattle.jfs_logfmt.specs.declared.log_record.Record.{Record}
use Rattle.jfs_logpages.specs.Back.{address_at}
use Rattle.jfs_command.specs.LogText.{record_line}
use Rattle.jfs_command.proofs.LogLines.{on_ok, cut_at}
use Rattle.jfs_command.proofs.log_text.push_record.Goals as goal

pub unreachable-requires : goal.unreachable-requires
unreachable-requires c =
    let m = c.requires.0 in
    let text = c.args.read.now.bytes.items in
    rw c.in-Err-Bad.field-0-is at
    (c.in-Err-Bad.ensures.whole (take m.start (take m.end text)) (drop m.start (take m.end text)) m.is (cut_at text c.bytes.result.now m c.args.end c.bytes.ensures c.requires.2) c.requires.1.spells c.requires.1.kept)

pub returns-in-Ok : goal.returns-in-Ok
returns-in-Ok c =
    on_ok c.push_line.result _ _ (λ pushed m is at.
    let text = c.args.read.now.bytes.items in
    let out = string_bytes c.args.out.now in
    let ring = c.args.read.now.ring in
    let first = c.args.read.now.first in
    let read = c.in-Ok.ensures.whole (take m.start (take m.end text)) (drop m.start (take m.end text)) m.is (cut_at text c.bytes.result.now m c.args.end c.bytes.ensures at) is.spells is.kept in
    let address : c.address.result ≡ address_at ring first m.end = c.address.ensures ∙ ap (λ (n : ℕ). address_at ring first n) (sym at) in
    pushed ∙ ap (λ (n : ℕ). out ++ record_line n c.in-Ok.found) address ∙ ap (λ (r : Record). out ++ record_line (address_at ring first m.end) r) read.0) c.push_line.ensures
