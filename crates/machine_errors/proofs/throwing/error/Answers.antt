use Rattle.std.proofs.Common.{rules, ◌≡◌, sym, subst}
use Rattle.std.specs.Prelude.{codes, drop}
use Rattle.std.proofs.lemmas.Result.{IfOk-weaker}
use Rattle.int_core.specs.Value.{shape}
use Rattle.lua_heap.specs.Errors.{HasText}
use Rattle.lua_heap.specs.Plain.{plain}
use Rattle.lua_heap.specs.Reading.{value}
use Rattle.lua_heap.proofs.TextsThere.{has_text}
use Rattle.machine_core.specs.FrameRows.{blames}
use Rattle.machine_core.specs.MachineStep.{error_row, wrong_type}
use Rattle.machine_core.specs.Moves.{placed}
use Rattle.machine_sound.specs.Sound.{sizes}
use Rattle.move_laws.specs.Memory.{Leads}
use Rattle.machine_moves.specs.Ending.{ending_of}
use Rattle.machine_moves.proofs.OnTop.{if_ok}
use Rattle.machine_errors.specs.Protected.{first_of}
use Rattle.machine_errors.specs.Throwing.{level_of, Sends}
use Rattle.machine_errors.proofs.Thrown.{first_valid, level_is, refuses, second_valid, throws, throws_placed}
use Rattle.machine_errors.proofs.throwing.error.Goals as goal

pub level_of-requires : goal.level_of-requires
level_of-requires c =
    let W = c.args.world.now in
    let z = sizes c.requires.primitives (plain W 0) in
    let is : c.first_of-level.result ≡ first_of (drop 1 W.moving.items) = search rules in
    subst (HasText W.strings) (sym is) (has_text c.strings_are_there.ensures z W.strings _ (second_valid z W.strings W.moving.items c.requires.sound.solid.moving))

pub throw_placed-requires-clause-there : goal.throw_placed-requires-clause-there
throw_placed-requires-clause-there c =
    let W = c.args.world.now in
    let z = sizes c.requires.primitives (plain W 0) in
    let is : c.first_of-message.result ≡ first_of W.moving.items = search rules in
    subst (HasText W.strings) (sym is) (has_text c.strings_are_there.ensures z W.strings _ (first_valid z W.strings W.moving.items c.requires.sound.solid.moving))

pub returns-in-Of-clause-leads : goal.returns-in-Of-clause-leads
returns-in-Of-clause-leads c =
    let W = c.args.world.now in
    let new = c.throw_placed.new.world in
    let message : c.first_of-message.result ≡ first_of W.moving.items = search rules in
    let second : c.first_of-level.result ≡ first_of (drop 1 W.moving.items) = search rules in
    let level = level_is W.strings second c.level_of.ensures c.in-Of.is in
    if_ok c.throw_placed.result c.throw_placed.ensures.sends c.throw_placed.ensures.raised (λ ending s r env.
    subst (λ e. Leads error_row env W new (ending_of e)) (sym r) (throws_placed W new c.in-Of.level env level (subst (λ v. Sends W new (λ fuel. placed (plain W fuel) c.in-Of.level (value W.strings v))) message s)))

pub returns-in-Nowhere-clause-leads : goal.returns-in-Nowhere-clause-leads
returns-in-Nowhere-clause-leads c =
    let W = c.args.world.now in
    let new = c.throw.new.world in
    let second : c.first_of-level.result ≡ first_of (drop 1 W.moving.items) = search rules in
    let level = level_is W.strings second c.level_of.ensures c.in-Nowhere.is in
    let message : c.first_of-message.result ≡ first_of W.moving.items = search rules in
    if_ok c.throw.result c.throw.ensures.sends c.throw.ensures.raised (λ ending s r env.
    subst (λ e. Leads error_row env W new (ending_of e)) (sym r) (throws W new env level (subst (λ v. Sends W new (λ fuel. value W.strings v)) message s)))

pub returns-in-Wrong-clause-leads : goal.returns-in-Wrong-clause-leads
returns-in-Wrong-clause-leads c =
    let W = c.args.world.now in
    let new = c.refuse_level.new.world in
    let second : c.first_of-level.result ≡ first_of (drop 1 W.moving.items) = search rules in
    IfOk-weaker c.refuse_level.result _ _ (λ ending b env.
    refuses W new (ending_of ending) env (level_is W.strings second c.level_of.ensures c.in-Wrong.is) (λ env. subst (λ v. Leads (blames (wrong_type 2 (codes "error") (codes "number") (shape (value W.strings v)))) env W new (ending_of ending)) second (b env)))
    c.refuse_level.ensures.leads
