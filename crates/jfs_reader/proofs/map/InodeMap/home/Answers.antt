use Rattle.std.proofs.Common.{sym, ap, ◌∙◌, arith}
use Rattle.jfs_disk.specs.Image.{page_of}
use Rattle.jfs_meaning.specs.objects.specs.Volume.{page_in}
use Rattle.jfs_meaning.specs.Readers.{readers}
use Rattle.jfs_reader.proofs.Homes.{home_past, home_there}
use Rattle.jfs_reader.proofs.map.InodeMap.home.Goals as goal

pub returns-then-n-self-clause-page : goal.returns-then-n-self-clause-page
returns-then-n-self-clause-page g c tells is =
    sym (home_past (readers (g.V.PageView.block_count c.args.view.now)) (page_of (g.V.PageView.image c.args.view.now)) c.args.n (let h = c.if-n-self.true in let i = is.iags in omega (arith, h, i)))

pub returns-in-Ok-clause-page : goal.returns-in-Ok-clause-page
returns-in-Ok-clause-page g c tells is =
    c.page_in.ensures ∙ ap (λ o. page_in o c.args.n) (c.in-Ok.ensures.place tells is)
    ∙ sym (home_there (readers (g.V.PageView.block_count c.args.view.now)) (page_of (g.V.PageView.image c.args.view.now)) c.args.n (let h = c.if-n-self.false in let i = is.iags in omega (arith, h, i)))
