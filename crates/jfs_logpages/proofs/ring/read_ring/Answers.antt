use Rattle.std.proofs.Common.{◌∙◌, sym}
use Rattle.jfs_logpages.proofs.Answered.{bad-ring, bad-text}
use Rattle.jfs_logpages.proofs.Shown.{super-kept}
use Rattle.jfs_logpages.proofs.ring.read_ring.Goals as goal

pub returns-in-Err-read_newest-clause-read : goal.returns-in-Err-read_newest-clause-read
returns-in-Err-read_newest-clause-read g c =
    let known = c.in-Ok.ensures.own in
    let none = c.in-Err-read_newest.ensures.none known.0 (λ t. known.1 t ∙ sym (c.read_super.ensures.image t)) in
    let own = super-kept c.args.log.len c.args.log.addr known.0 none.0 none.2 known.2 known.3 in
    (none.0, λ t. none.1 t ∙ c.read_super.ensures.image t, bad-ring c.args.log.len c.args.blocks _ _ own.0 own.1 none.3)

pub returns-in-Err-read_records-clause-read : goal.returns-in-Err-read_records-clause-read
returns-in-Err-read_records-clause-read g c =
    let known = c.in-Ok.ensures.own in
    let read = c.in-Ok-read_newest.ensures.text known.0 (λ t. known.1 t ∙ sym (c.read_super.ensures.image t)) in
    let own = super-kept c.args.log.len c.args.log.addr known.0 read.0 read.2 known.2 known.3 in (
      read.0,
      λ t. read.1 t ∙ c.read_super.ensures.image t,
      bad-text c.args.log.len c.args.blocks c.in-Ok-read_newest.read.0 c.in-Ok-read_newest.read.1.items _ _ own.0 own.1 read.3 (rw c.deref.ensures.value at c.in-Err-read_records.ensures.broken),
    )

pub returns-in-Ok-read_records-clause-read : goal.returns-in-Ok-read_records-clause-read
returns-in-Ok-read_records-clause-read g c =
    let known = c.in-Ok.ensures.own in
    let read = c.in-Ok-read_newest.ensures.text known.0 (λ t. known.1 t ∙ sym (c.read_super.ensures.image t)) in
    let own = super-kept c.args.log.len c.args.log.addr known.0 read.0 read.2 known.2 known.3 in
    let found = rw c.deref.ensures.value at c.in-Ok-read_records.ensures.found in (
      read.0,
      λ t. read.1 t ∙ c.read_super.ensures.image t,
      record {
        super_block = own.0;
        label = own.1;
        text = rw (c.new.ensures.first, c.new.ensures.bytes) read.3;
        m = found.0;
        ms = found.1;
        records = rw (c.new.ensures.first, c.new.ensures.bytes) found.2;
        ends = rw c.new.ensures.ends found.3;
        ring = c.new.ensures.ring;
      },
    )
