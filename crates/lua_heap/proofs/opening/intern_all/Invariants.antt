use Rattle.std.proofs.Common.{◌≡◌, drop, map}
use Rattle.lua_heap.specs.Opening.{all_interned}
use Rattle.lua_heap.proofs.opening.intern_all.Given as goal

abbrev pub invariant-loop-text : goal.invariant-loop-text
invariant-loop-text l = all_interned l.strings (map (λ text. text.now) (drop l.text-index l.texts)) ≡ all_interned l.initial.strings (map (λ text. text.now) l.texts)
