-- What a function that changes the running stack knows of it.
use Rattle.std.proofs.Common.{◌≡◌, ℕ, zero, suc, ◌+◌, ◌<◌, ◌≤◌, List, [], ◌∷◌, length, Some, refl, ap, sym, subst, ◌∙◌, arith, true}
use Rattle.std.specs.Prelude.{slice_get, slice_set, get_or, nat_lt, nat_le}
use Rattle.std.proofs.lemmas.Bool.Decides.{nat_tests}
use Rattle.machine_sound.proofs.Lists.{get_there, get_within, some_is}
use Rattle.table_core.specs.declared.value.CoroId.{CoroId}
use Rattle.lua_stack.specs.Frames.{KeptStack}
use Rattle.lua_heap.specs.declared.world.Coro.{Coro}
use Rattle.lua_heap.specs.declared.world.Coro.TheVariants.{Running}
use Rattle.lua_heap.specs.declared.world.World.{World as Memory}
use Rattle.move_laws.specs.Memory.{Runs}
use Rattle.move_laws.specs.Law.{RunsIn}
use Rattle.machine_moves.specs.Moves.{RunsAs}

pub within : {W : Memory} {co : CoroId} → RunsAs W co → co.0 < length W.coros.objects
within {W} {co} r = get_within W.coros.objects co.0 (Running r.stack) r.runs.there

-- the stack that is found at the running coroutine's number
pub found_runs : {W : Memory} {co : CoroId} (c : Coro) (s : KeptStack) → RunsAs W co → slice_get W.coros.objects co.0 ≡ Some c → c ≡ Running s → Runs W co s
found_runs c s r e f = record { chain = r.runs.chain; there = e ∙ ap (λ c. Some c) f }

pub less : (r n : ℕ) → nat_lt r n ≡ true → r + 1 ≤ n
less r n e = search (arith, nat_tests)

pub at_most : (k n : ℕ) → nat_le k n ≡ true → k ≤ n
at_most k n e = search (arith, nat_tests)

pub got_is : {A : Type 0} (xs : List A) (n : ℕ) (x d : A) → slice_get xs n ≡ Some x → get_or xs n d ≡ x
got_is [] n x d e = absurd (cc)
got_is (y ∷ xs) zero x d e = some_is {o = Some y} refl e
got_is (y ∷ xs) (suc n) x d e = got_is xs n x d e

pub runs_as : {W : Memory} {co : CoroId} (r : RunsIn W) → r.co ≡ co → RunsAs W co
runs_as {W} {co} r e = record { stack = r.stack; runs = subst (λ co. Runs W co r.stack) e r.runs }

-- the world with another stack for a coroutine that runs
abbrev pub with_stack : Memory → CoroId → KeptStack → Memory
with_stack W co s = record W { coros = record W.coros { objects = slice_set W.coros.objects co.0 (Running s) } }

pub got_there : {A : Type 0} (xs : List A) (n : ℕ) (x : A) → n < length xs → x ≡ get_or xs n x → slice_get xs n ≡ Some x
got_there xs n x l e = let t = get_there xs n l in t.1 ∙ ap (λ y. Some y) (sym (e ∙ got_is xs n t.0 x t.1))
