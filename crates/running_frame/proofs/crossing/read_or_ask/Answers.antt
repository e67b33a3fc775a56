use Rattle.std.proofs.Common.{◌≡◌, refl, sym, subst, rules}
use Rattle.lua_stack.specs.Frames.{KeptStack}
use Rattle.machine_arms_tables.specs.Frame.{code}
use Rattle.running_frame.specs.Advancing.{Advances}
use Rattle.frame_calls.specs.Standing.{RunsAt}
use Rattle.running_frame.proofs.crossing.read_or_ask.Goals as goal

pub read_inherited-requires : goal.read_inherited-requires
read_inherited-requires g c = ((c.args.cells.now.objects, record { fuel = c.args.budget.now; runs = c.requires.0 }), c.requires.1.meta)

pub returns-in-Some : goal.returns-in-Some
returns-in-Some g c =
    let o = c.in-Some.ensures.goes c.args.cells.now.objects in
    record { reaches = o.reaches c.args.budget.now c.requires.0; opened = refl; listed = o.listed }

pub ask_next-requires : goal.ask_next-requires
ask_next-requires g c =
    let kept : c.read_inherited.new.stack ≡ c.args.stack.now = search rules in
    let k = code c.args.body.closure c.args.around.strings.now in (
      subst (λ (s : KeptStack). RunsAt g.g k s c.args.tables.now.objects c.args.cells.now.objects c.args.budget.now c.args.pc) (sym kept) c.requires.0,
      c.requires.1,
    )

pub returns-in-None : goal.returns-in-None
returns-in-None g c =
    let kept : c.read_inherited.new.stack ≡ c.args.stack.now = search rules in
    let cs = c.args.cells.now.objects in
    subst (λ (s : KeptStack). Advances g.g s c.ask_next.new.stack c.args.tables.now.objects c.ask_next.new.tables.objects cs cs c.args.budget.now c.ask_next.new.budget) kept c.ask_next.ensures
