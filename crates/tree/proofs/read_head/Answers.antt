-- The first refusal counts; with none, form, lines and names are the head.
use Rattle.std.proofs.Common.{◌≡◌, arith}
use Rattle.tree.specs.Files.{origin}
use Rattle.bits.proofs.Gives.{passed}
use Rattle.tree.proofs.Laws.{from-origin, head-1, head-2, head-3, head-4, head-5, headed}
use Rattle.tree.proofs.read_head.Goals as goal
use Rattle.tree.proofs.read_head.Goals.{After-default}

at-origin : (c : After-default) → c.default.result ≡ origin
at-origin c = from-origin (omega arith) (omega arith) (omega arith) (omega arith) (omega arith) (omega arith)

pub returns-in_err-form : goal.returns-in_err-form
returns-in_err-form c =
    let z = at-origin (goal.at.returns-in_err-form c).After-default in
    let k = c.in_err-form.ensures in
    rw (passed c.from_residual.ensures.1) (record { here = head-1 (rw z at k.here) })

pub returns-then-form-ne-FORM : goal.returns-then-form-ne-FORM
returns-then-form-ne-FORM c =
    let z = at-origin (goal.at.returns-then-form-ne-FORM c).After-default in
    let x = c.in_ok-form.ensures in
    let a = rw z at x.here in
    record { here = head-2 a.reads c.if-form-ne-FORM.true }

pub returns-in_err-lines : goal.returns-in_err-lines
returns-in_err-lines c =
    let z = at-origin (goal.at.returns-in_err-lines c).After-default in
    let x = c.in_ok-form.ensures in
    let a = rw z at x.here in
    let k = c.in_err-lines.ensures in
    rw (passed c.from_residual-in_err-lines.ensures.1) (record { here = head-3 a.reads c.if-form-ne-FORM.false k.here })

pub returns-then-lines-eq0 : goal.returns-then-lines-eq0
returns-then-lines-eq0 c =
    let z = at-origin (goal.at.returns-then-lines-eq0 c).After-default in
    let x = c.in_ok-form.ensures in
    let a = rw z at x.here in
    let b = c.in_ok-lines.ensures in
    record { here = head-4 a.reads c.if-form-ne-FORM.false b.here.reads c.if-lines-eq0.true }

pub returns-in_err-names : goal.returns-in_err-names
returns-in_err-names c =
    let z = at-origin (goal.at.returns-in_err-names c).After-default in
    let x = c.in_ok-form.ensures in
    let a = rw z at x.here in
    let b = c.in_ok-lines.ensures in
    let k = c.in_err-names.ensures in
    rw (passed c.from_residual-in_err-names.ensures.1) (record { here = head-5 a.reads c.if-form-ne-FORM.false b.here.reads c.if-lines-eq0.false k.here })

pub returns : goal.returns
returns c =
    let z = at-origin (goal.at.returns c).After-default in
    let x = c.in_ok-form.ensures in
    let a = rw z at x.here in
    let b = c.in_ok-lines.ensures in
    let d = c.in_ok-names.ensures in
    record { here = headed a c.if-form-ne-FORM.false b.here c.if-lines-eq0.false d.here }
