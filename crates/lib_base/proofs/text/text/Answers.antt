use Rattle.std.proofs.Common.{rules, ◌≡◌, ap, ◌∙◌, of_z, to_z, w64}
use Rattle.lua_heap.specs.Reading.{value}
use Rattle.pure_functions.proofs.Interning.{nothing}
use Rattle.lib_base.proofs.text.text.Goals as goal

pub own_text-requires-clause-first : goal.own_text-requires-clause-first
own_text-requires-clause-first c = λ texts. c.argument.ensures texts ∙ ap (value texts) c.in-Str.is

pub integer_text-requires-clause-first : goal.integer_text-requires-clause-first
integer_text-requires-clause-first c =
    let n : to_z w64 (of_z w64 c.in-Int.n) ≡ c.in-Int.n = search rules in
    λ texts. search (rules, n, c.argument.ensures texts, ap (value texts) c.in-Int.is)

pub returns-in-Str-clause-kept : goal.returns-in-Str-clause-kept
returns-in-Str-clause-kept c = nothing c.args.world.now c.args.arguments.now c.requires
