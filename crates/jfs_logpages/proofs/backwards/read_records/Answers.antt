use Rattle.std.proofs.Common.{◌≡◌, ◌<◌, ◌≤◌, ℕ, ◌∷◌, false, IfSome, Ok, Err, refl, sym, subst, arith}
use Rattle.jfs_logpages.specs.Back.{Met, HasRead, no_sync, newest}
use Rattle.jfs_logpages.specs.Outcome.{IsPointOf, IsJudged}
use Rattle.jfs_logpages.proofs.Judged.{bad-map, breaks-judged, breaks-record, reading-more}
use Rattle.jfs_logpages.proofs.backwards.read_records.Goals as goal

pub returns-in-Err-clause-broken : goal.returns-in-Err-clause-broken
returns-in-Err-clause-broken c =
    let inv = c.loop-left.invariant in
    bad-map _ _ c.in-Err.error (breaks-record c.args.window.ring c.args.window.first c.args.blocks c.args.text.now inv.ms c.loop-left.left c.address-at.result inv.read c.loop-left-test.true c.address-at.ensures.value) c.in-Err.ensures.broken

pub returns-in-Err-judge-clause-broken : goal.returns-in-Err-judge-clause-broken
returns-in-Err-judge-clause-broken c =
    let inv = c.loop-left.invariant in
    let w = c.args.window in
    let m : Met = record { start = c.in-Ok.read.1; end = c.loop-left.left; is = c.in-Ok.read.0 } in
    let known = subst (λ (n : ℕ). IsPointOf w.ring w.first n (newest inv.ms) c.loop-left.point) (sym c.requires.size) inv.newer in
    let judged = c.judge.ensures inv.ms inv.behind (c.newer-point.ensures.newer (newest inv.ms) m refl refl known) in
    let refused = subst (λ (r : _). IsJudged w.ring w.first w.size m inv.ms r) c.in-Err-judge.is judged in
    let sized = subst (λ (n : ℕ). IsJudged w.ring w.first n m inv.ms (Err c.in-Err-judge.error)) c.requires.size refused in
    bad-map _ _ c.in-Err-judge.error (breaks-judged w.ring w.first c.args.blocks c.args.text.now m inv.ms inv.read c.in-Ok.ensures.found) sized

pub loop-left-preserved : goal.loop-left-preserved
loop-left-preserved c =
    let inv = c.loop-left.invariant in
    let w = c.args.window in
    let m : Met = record { start = c.in-Ok.read.1; end = c.loop-left.left; is = c.in-Ok.read.0 } in
    let known = subst (λ (n : ℕ). IsPointOf w.ring w.first n (newest inv.ms) c.loop-left.point) (sym c.requires.size) inv.newer in
    let newer = c.newer-point.ensures.newer (newest inv.ms) m refl refl known in
    let judged = c.judge.ensures inv.ms inv.behind newer in
    let went = subst (λ (r : _). IsJudged w.ring w.first w.size m inv.ms r) c.in-Ok-false.is judged in
    let on = subst (λ (b : _). IsJudged w.ring w.first w.size m inv.ms (Ok b)) c.in-Ok-false.field-0-test went in
    let sized = subst (λ (n : ℕ). IsJudged w.ring w.first n m inv.ms (Ok false)) c.requires.size on in
    rw c.in-Ok-push.ensures.items
    (reading-more w.ring w.first c.args.blocks c.args.text.now m c.loop-left.next c.loop-left.point c.newer-point.result c.loop-left.ends.items inv c.in-Ok.ensures.found sized.0 sized.1
    (subst (λ (n : ℕ). IsPointOf w.ring w.first n (newest (m ∷ inv.ms)) c.newer-point.result) c.requires.size newer)
    (subst (λ (n : ℕ). IfSome c.newer-point.result (λ p. (0 < p.end) × (p.end ≤ n))) c.requires.size
    (c.newer-point.ensures.within (subst (λ (n : ℕ). IfSome c.loop-left.point (λ p. (0 < p.end) × (p.end ≤ n))) (sym c.requires.size) inv.point_within) c.loop-left-test.true (omega (arith, inv.within, c.requires.size)))))

pub returns-clause-broken : goal.returns-clause-broken
returns-clause-broken c =
    let inv = c.loop-left.invariant in
    let none : c.loop-left.left ≡ 0 = omega (arith, c.loop-left-test.false) in
    no_sync inv.ms (subst (λ (n : ℕ). HasRead c.args.window.ring c.args.window.first c.args.blocks c.args.text.now inv.ms n) none inv.read) refl refl
