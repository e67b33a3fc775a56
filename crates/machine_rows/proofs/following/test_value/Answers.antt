use Rattle.std.proofs.Common.{rules, ◌≡◌, ◌+◌, [], ◌∷◌, sym, subst}
use Rattle.int_core.specs.Value.{holds, shape}
use Rattle.lua_heap.specs.Reading.{value as meant}
use Rattle.machine_core.specs.FrameRows.{expand}
use Rattle.machine_core.specs.Moves.{go}
use Rattle.move_laws.specs.Memory.{IsSafe, Leads}
use Rattle.machine_rows.proofs.Going.{goes_on, may_go, tests, skipped}
use Rattle.move_laws.proofs.Kept.{order_kept}
use Rattle.machine_rows.proofs.following.test_value.Goals as goal

pub go_to-requires : goal.go_to-requires
go_to-requires c =
    let W = c.args.world.now in
    let b = holds (shape (meant W.strings c.args.v)) in
    let e : c.behind.result ≡ c.args.pc + skipped b c.args.wanted = search rules in
    may_go (skipped b c.args.wanted) c.requires.at e (subst (λ t. IsSafe (expand t) (meant W.strings c.args.v ∷ []) W) (tests b c.args.wanted) c.requires.safe)

pub returns-clause-leads : goal.returns-clause-leads
returns-clause-leads c =
    let W = c.args.world.now in
    let b = holds (shape (meant W.strings c.args.v)) in
    let e : c.behind.result ≡ c.args.pc + skipped b c.args.wanted = search rules in
    subst (λ t. Leads (expand t) (meant W.strings c.args.v ∷ []) W c.go_to.new.world go) (sym (tests b c.args.wanted)) (goes_on (skipped b c.args.wanted) c.requires.at e c.go_to.ensures.makes _)

pub returns-clause-order : goal.returns-clause-order
returns-clause-order c = order_kept c.requires.order c.go_to.ensures.rest c.go_to.ensures.listed
