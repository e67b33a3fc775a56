use Rattle.std.proofs.Common.{◌≡◌, List, inl, inr, refl, sym, subst, ◌∙◌}
use Rattle.std.proofs.lemmas.Option.{IfSome_then}
use Rattle.table_core.specs.Table.{Contents}
use Rattle.lua_stack.specs.Frames.{KeptStack}
use Rattle.machine_arms_tables.specs.Frame.{code}
use Rattle.frame_calls.proofs.Takers.{none_then, still_may}
use Rattle.running_frame.specs.Asking.{ReachesOut, ReadSame}
use Rattle.running_frame.specs.Inheriting.{metatable_number}
use Rattle.running_frame.specs.Upvalues.{ListsOpen}
use Rattle.running_frame.proofs.frames.write.Goals as goal

pub returns-in-Some-clause-writes : goal.returns-in-Some-clause-writes
returns-in-Some-clause-writes c = inr (c.in-Some.ensures.fills, refl)

pub reach_out-requires-clause-may : goal.reach_out-requires-clause-may
reach_out-requires-clause-may c = still_may c.in-None.ensures.kept.0 c.requires.may

pub reach_out-requires-clause-cells : goal.reach_out-requires-clause-cells
reach_out-requires-clause-cells c = subst (λ (s : KeptStack). ListsOpen c.args.around.now.co.0 s c.args.cells.now.objects) (sym c.in-None.ensures.kept.0) c.requires.cells

pub returns-in-None-clause-writes : goal.returns-in-None-clause-writes
returns-in-None-clause-writes c =
    let k = c.in-None.ensures.kept in
    IfSome_then c.reach_out.result c.reach_out.ensures.reaches
    (λ o x. inl (
      subst (λ (ts : List Contents). ReachesOut c.args.around.now.co.0 (code c.args.closure c.args.around.now.strings.now) c.args.stack.now c.reach_out.new.stack ts (metatable_number c.args.around.now.string_meta) c.args.cells.now.objects c.args.stop.now c.args.budget.now c.reach_out.new.budget) k.1
          (subst (λ (s : KeptStack). ReachesOut c.args.around.now.co.0 (code c.args.closure c.args.around.now.strings.now) s c.reach_out.new.stack c.fill_one.new.tables.objects (metatable_number c.args.around.now.string_meta) c.args.cells.now.objects c.args.stop.now c.args.budget.now c.reach_out.new.budget) k.0 x),
      k.1,
    ))

pub returns-in-None-clause-kept : goal.returns-in-None-clause-kept
returns-in-None-clause-kept c =
    let k = c.in-None.ensures.kept in
    none_then c.reach_out.result
    (λ (e : ReadSame c.fill_one.new.stack c.reach_out.new.stack × (c.reach_out.new.budget ≡ c.args.budget.now)). (subst (λ (s : KeptStack). ReadSame s c.reach_out.new.stack) k.0 e.0, e.1, k.1)) c.reach_out.ensures.kept

pub returns-in-None-clause-listed : goal.returns-in-None-clause-listed
returns-in-None-clause-listed c = c.reach_out.ensures.listed ∙ c.fill_one.ensures.listed
