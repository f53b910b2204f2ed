use Rattle.std.specs.Global.{Vec}
use Rattle.std.proofs.Common.{ℕ, ap, ◌∙◌}
use Rattle.jfs_format.specs.declared.layout.Layout.{Layout}
use Rattle.jfs_format.specs.Layout.{layout_of}
use Rattle.jfs_command.specs.Format.{format_text}
use Rattle.jfs_command.specs.Held.{held_of}
use Rattle.jfs_command.specs.Superblock.{superblock_of}
use Rattle.jfs_command.proofs.Formatting.{means, formatted, begun_no_memory, refused_or_failed}
use Rattle.jfs_command.proofs.format.format_volume.Goals as goal

pub returns-in-Ok-format_line-clause-meaning : goal.returns-in-Ok-format_line-clause-meaning
returns-in-Ok-format_line-clause-meaning g c =
    let d = g.D.Disk in
    let made = c.new.ensures in
    let done = c.in-Ok.ensures in
    let meant = λ (t : d.tells). means (d.page_count c.args.disk.now) c.args.uuid c.args.label.now c.args.now (superblock_of (held_of d c.format.new.disk)) (d.image c.format.new.disk) done.answer.0 (done.volume t) (done.reads t) in
    formatted d c.args.disk.now c.format.new.disk c.new.result c.args.uuid c.args.label.now c.args.now (g.met.D.Disk.has_pages c.args.disk.now) done.answer.0
    (record {
      begun = record { history = made.history; told = made.told; unnamed = c.format.ensures.unnamed; moments = c.format.ensures.moments };
      volume = done.volume;
      reads = done.reads;
      tree = λ t. (meant t).tree;
      consistent = λ t. (meant t).consistent;
      clean = λ t. (meant t).clean;
      stable = done.stable;
    })
    (made.text ∙ ap (λ (v : Vec ℕ). v.items) c.into_bytes.ensures.value ∙ c.in-Ok-format_line.ensures
    ∙ ap (λ (l : Layout). format_text l) (c.of.ensures.value ∙ ap (λ (n : ℕ). layout_of n) c.pages-pages.ensures))
    done.answer.1 made.end

pub returns-in-Err-format_line-clause-meaning : goal.returns-in-Err-format_line-clause-meaning
returns-in-Err-format_line-clause-meaning g c =
    let made = c.new-in-Err-format_line-2.ensures in
    begun_no_memory g.D.Disk c.args.disk.now c.format.new.disk c.new-in-Err-format_line-2.result c.args.uuid c.args.label.now c.args.now (g.met.D.Disk.has_pages c.args.disk.now) c.in-Ok.ensures.answer.0
    (record { history = made.history; told = made.told; unnamed = c.format.ensures.unnamed; moments = c.format.ensures.moments })
    (made.text ∙ c.new-in-Err-format_line.ensures.items) made.end

pub returns-in-Err-clause-meaning : goal.returns-in-Err-clause-meaning
returns-in-Err-clause-meaning g c =
    let made = c.new-in-Err-2.ensures in
    refused_or_failed g.D.Disk c.args.disk.now c.format.new.disk c.new-in-Err-2.result c.args.uuid c.args.label.now c.args.now c.in-Err.error c.format.result (g.met.D.Disk.has_pages c.args.disk.now) c.in-Err.is c.format.ensures.answer
    (record { history = made.history; told = made.told; unnamed = c.format.ensures.unnamed; moments = c.format.ensures.moments })
    (made.text ∙ c.new-in-Err.ensures.items) (made.end ∙ c.end_of.ensures)
