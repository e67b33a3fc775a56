use Rattle.std.proofs.lemmas.Result.{on_err_weaker}
use Rattle.pure_functions.proofs.Interning.{changes_strings, same_strings}
use Rattle.lib_base.proofs.calls.call.Goals as goal

pub returns-in-Assert-clause-changes : goal.returns-in-Assert-clause-changes
returns-in-Assert-clause-changes c = changes_strings c.args.world.now c.assert.new.world c.args.arguments.now c.assert.ensures.kept

pub returns-in-GetMetatable-clause-changes : goal.returns-in-GetMetatable-clause-changes
returns-in-GetMetatable-clause-changes c = changes_strings c.args.world.now c.get_metatable.new.world c.args.arguments.now c.get_metatable.ensures.kept

pub returns-in-TypeOf-clause-changes : goal.returns-in-TypeOf-clause-changes
returns-in-TypeOf-clause-changes c = changes_strings c.args.world.now c.type_of.new.world c.args.arguments.now c.type_of.ensures.kept

pub returns-in-Math-clause-changes : goal.returns-in-Math-clause-changes
returns-in-Math-clause-changes c = changes_strings c.args.world.now c.call.new.world c.args.arguments.now c.call.ensures.kept

pub returns-in-OverTexts-clause-changes : goal.returns-in-OverTexts-clause-changes
returns-in-OverTexts-clause-changes c = changes_strings c.args.world.now c.over_texts.new.world c.args.arguments.now c.over_texts.ensures.kept

pub returns-in-Expand-clause-changes : goal.returns-in-Expand-clause-changes
returns-in-Expand-clause-changes c = changes_strings c.args.world.now c.expand.new.world c.args.arguments.now c.expand.ensures.kept

pub returns-in-Join-clause-changes : goal.returns-in-Join-clause-changes
returns-in-Join-clause-changes c = changes_strings c.args.world.now c.join.new.world c.args.arguments.now c.join.ensures.kept

pub returns-in-Text-clause-changes : goal.returns-in-Text-clause-changes
returns-in-Text-clause-changes c = changes_strings c.args.world.now c.text.new.world c.args.arguments.now c.text.ensures.kept

pub returns-in-RawSet-clause-err : goal.returns-in-RawSet-clause-err
returns-in-RawSet-clause-err c = on_err_weaker c.raw_set.result (same_strings c.args.world.now c.raw_set.new.world c.args.arguments.now c.requires) c.raw_set.ensures.err

pub returns-in-Sort-clause-err : goal.returns-in-Sort-clause-err
returns-in-Sort-clause-err c = on_err_weaker c.sort.result (same_strings c.args.world.now c.sort.new.world c.args.arguments.now c.requires) c.sort.ensures.err
