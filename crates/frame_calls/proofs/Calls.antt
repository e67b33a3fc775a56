-- What a call on a stack tests.
use Rattle.std.proofs.Common.{◌≡◌, ℕ, zero, suc, ◌≤◌, ◌∷◌, [], List, Option, Some, None, length, map, refl, ap, sym, ◌∙◌, arith, true}
use Rattle.std.proofs.lemmas.List.{length-map}
use Rattle.code_core.specs.declared.opcode.Opcode.{Opcode}
use Rattle.code_core.specs.declared.opcode.Opcode.TheVariants.{Call, Return, VarArg}
use Rattle.machine_sound.proofs.Lists.{some_is}
use Rattle.lua_stack.specs.declared.frame.OpenCell.{OpenCell}
use Rattle.lua_stack.specs.Frames.{AllBelow, HasLuaTop, HasRegisters, KeptStack, NoneFrom, OnTop, top_number}
use Rattle.table_core.specs.declared.value.Value.{Value as Kept}
use Rattle.frame_calls.specs.Calling.{is_call, one_less}
use Rattle.frame_calls.specs.Listing.{taken_of}
use Rattle.frame_calls.specs.Returning.{count_of, said_of}

pub call_is : (o : Option Opcode) → is_call o ≡ true → o ≡ Some Call
call_is (Some Call) h = refl
call_is _ h = absurd (cc)

pub said_counts : (o : Option Opcode) (b n : ℕ) → said_of o b ≡ Some n → count_of o b ≡ Some n
said_counts (Some Return) b n e = e
said_counts _ b n e = absurd (cc)

-- numbers that are counted from one

pub none_less : (n : ℕ) → n ≡ 0 → None ≡ one_less n
none_less n e = ap one_less (sym e)

pub some_less : (n m : ℕ) → n ≡ suc m → Some m ≡ one_less n
some_less n m e = ap one_less (sym e)

pub less_is : (n m : ℕ) → one_less n ≡ Some m → n ≡ suc m
less_is zero m e = absurd (cc)
less_is (suc n) m e = ap suc (some_is {o = Some n} refl e)

pub taken_is : (o : Option Opcode) (n count : ℕ) → taken_of o n ≡ Some count → (o ≡ Some VarArg) × (n ≡ suc count)
taken_is (Some VarArg) n count e = (refl, less_is n count e)
taken_is _ n count e = absurd (cc)

below_more : (frame r q : ℕ) (cs : List OpenCell) → r ≤ q → AllBelow frame r cs → AllBelow frame q cs
below_more frame r q [] l b = tt
below_more frame r q (c ∷ cs) l b =
    (record { frame_at_most = b.0.frame_at_most; register_less = λ m. let k = b.0.register_less m in omega (arith, k, l) }, below_more frame r q cs l b.1)

pub none_further : {s : KeptStack} {r q : ℕ} → r ≤ q → NoneFrom s r → NoneFrom s q
none_further {s} {r} {q} l h = record { below = below_more (top_number s) r q s.open_cells l h.below }

-- a frame has the registers that it is known to have
pub has_registers : {s : KeptStack} {n : ℕ} (registers : List Kept) → HasLuaTop s → OnTop s (λ f t. map f registers ≡ t.own.registers) → n ≤ length registers → HasRegisters s n
has_registers registers h are l =
    let many = ap length (sym (are h.value h.below h.top h.is)) ∙ length-map registers h.value in
    record { value = h.value; below = h.below; top = h.top; is = h.is; room = omega (arith, many, l) }
