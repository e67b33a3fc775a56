use Rattle.std.proofs.Common.{rules, ◌≡◌, List, [], ◌∷◌, subst}
use Rattle.int_core.specs.Limits.{limited}
use Rattle.int_core.specs.Value.{Value, known, nil}
use Rattle.library_arguments.specs.Refusals.{refusal_text}
use Rattle.machine_core.specs.FrameRows.{blames}
use Rattle.lua_heap.specs.Plain.{plain}
use Rattle.move_laws.specs.Memory.{Leads}
use Rattle.machine_moves.specs.Ending.{ending_of}
use Rattle.machine_loads.specs.Loading.{HandsOver}
use Rattle.lib_load.specs.Loads.{ComesTo, load_in}
use Rattle.lib_load.proofs.Rows.{function_leads, reason_leads, wrong_leads}
use Rattle.lib_load.proofs.loading.load.Goals as goal

pub returns-in_ok-ending-in-Wrong-clause-leads : goal.returns-in_ok-ending-in-Wrong-clause-leads
returns-in_ok-ending-in-Wrong-clause-leads c =
    let W = c.args.world.now in
    let V = c.blame.new.world in
    let e = ending_of c.in_ok-ending-in-Wrong.ending in
    let same : c.as_slice.result.now ≡ refusal_text c.in-Wrong.refusal = search rules in
    wrong_leads W V c.in-Wrong.refusal e (subst (ComesTo (load_in W)) c.in-Wrong.is c.in_ok-refusal.ensures)
    (subst (λ text. (env : List Value) → Leads (blames text) env W V e) same c.in_ok-ending-in-Wrong.ensures.leads)

pub returns-in_ok-ending-in-NotLoaded-clause-leads : goal.returns-in_ok-ending-in-NotLoaded-clause-leads
returns-in_ok-ending-in-NotLoaded-clause-leads c =
    let W = c.args.world.now in
    let V = c.give_reason.new.world in
    let e = ending_of c.in_ok-ending-in-NotLoaded.ending in
    let same : c.as_slice-in-NotLoaded.result.now ≡ c.in-NotLoaded.why.items = search rules in
    reason_leads W V c.in-NotLoaded.why e (subst (ComesTo (load_in W)) c.in-NotLoaded.is c.in_ok-refusal.ensures)
    (subst (λ text. HandsOver (plain W) (known nil ∷ limited text ∷ []) V e) same c.in_ok-ending-in-NotLoaded.ensures.gives)

pub returns-in_ok-ending-in-Loaded-clause-leads : goal.returns-in_ok-ending-in-Loaded-clause-leads
returns-in_ok-ending-in-Loaded-clause-leads c =
    let W = c.args.world.now in
    function_leads W c.give_function.new.world c.in-Loaded.code (ending_of c.in_ok-ending-in-Loaded.ending) (subst (ComesTo (load_in W)) c.in-Loaded.is c.in_ok-refusal.ensures)
    c.in_ok-ending-in-Loaded.ensures.gives
