use Rattle.std.proofs.Common.{◌≡◌, inl, inr, refl, subst, ◌∙◌}
use Rattle.std.proofs.lemmas.Option.{IfSome_then}
use Rattle.lua_stack.specs.Frames.{KeptStack}
use Rattle.frame_calls.specs.Calling.{program_of}
use Rattle.frame_calls.proofs.Takers.{none_then, still_may}
use Rattle.running_frame.specs.Asking.{AsksOver, ReadSame}
use Rattle.running_frame.specs.Inheriting.{metatable_number}
use Rattle.running_frame.proofs.frames.reach_out.Goals as goal

pub store_open-requires-clause-top : goal.store_open-requires-clause-top
store_open-requires-clause-top c = c.requires.may.top

pub returns-in-Some-clause-reaches : goal.returns-in-Some-clause-reaches
returns-in-Some-clause-reaches c = inl (c.in-Some.ensures.stores, refl)

pub ask_over-requires : goal.ask_over-requires
ask_over-requires c = still_may c.in-None.ensures.kept c.requires.may

pub returns-in-None-clause-reaches : goal.returns-in-None-clause-reaches
returns-in-None-clause-reaches c =
    IfSome_then c.ask_over.result c.ask_over.ensures.asks
    (λ o x. inr (subst (λ (s : KeptStack). AsksOver s c.ask_over.new.stack c.args.around.now.strings.now c.args.closure.constants.now c.args.tables.now.objects (metatable_number c.args.around.now.string_meta) (program_of c.args.stop.now.functions) c.args.stop.now.word c.args.budget.now c.ask_over.new.budget) c.in-None.ensures.kept x))

pub returns-in-None-clause-kept : goal.returns-in-None-clause-kept
returns-in-None-clause-kept c =
    none_then c.ask_over.result
    (λ (e : ReadSame c.store_open.new.stack c.ask_over.new.stack × (c.ask_over.new.budget ≡ c.args.budget.now)). (subst (λ (s : KeptStack). ReadSame s c.ask_over.new.stack) c.in-None.ensures.kept e.0, e.1)) c.ask_over.ensures.kept

pub returns-in-None-clause-listed : goal.returns-in-None-clause-listed
returns-in-None-clause-listed c = c.ask_over.ensures.listed ∙ c.store_open.ensures.listed
