-- All rules on instructions hold at each place of a function's code.
use Rattle.std.proofs.Common.{◌≡◌, ℕ, suc, ◌+◌, ◌<◌, ◌^◌, lit<, Bool, true, false, not, ◌&&◌, ◌==◌, List, [], ◌∷◌, length, Option, Some, slice_get, refl, sym, ap, ap₂, subst, ◌∙◌, arith, ne_eqb, ◌⊎◌, inl, inr}
use Rattle.std.specs.List.{list_all}
use Rattle.tree_core.specs.declared.name.Name.{Name}
use Rattle.tree_core.specs.declared.name.UpName.{UpName}
use Rattle.tree_core.specs.Tree.{Block, BodyOf}
use Rattle.code_core.specs.declared.opcode.Opcode.{Opcode}
use Rattle.code_core.specs.declared.opcode.Opcode.TheVariants.{Jmp, VarArgPrep, Return}
use Rattle.code_core.specs.declared.instruction.Instruction.{Instruction}
use Rattle.code_core.specs.Instruction.{abc, opcode_of}
use Rattle.code_core.specs.Prototype.{Prototype}
use Rattle.code_core.specs.Writable.{word_fits}
use Rattle.code_core.specs.Check.{at, is_taken, rules, AllHold}
use Rattle.code_core.proofs.FieldLemmas.{opcode_of-abc}
use Rattle.code_of.specs.Coded.{Coded, words}
use Rattle.code_of.specs.Constants.{of_block}
use Rattle.code_of.specs.Statements.{whole_code}
use Rattle.code_of.specs.CodeOf.{leaving_of, body_code}
use Rattle.code_checked.specs.Near.{BlockIsNear, FunctionIsNear}
use Rattle.code_checked.proofs.Pieces.{closed, returned, Ends, Land, Has, Kept, AllKept, behind_front}
use Rattle.code_checked.proofs.Units.{leaves_none, begins_none}
use Rattle.code_checked.proofs.Words.{abc_fits}
use Rattle.code_checked.proofs.Found.{grows_none}
use Rattle.code_checked.proofs.Bodies.{has_all, kept_at, last_returns, rules_hold, last_fits, function, function_whole, whole_piece, some_same}

and_false : (b : Bool) → not (b && false) ≡ true
and_false true = refl
and_false false = refl

pub length_words : (xs : List Coded) → length (words xs) ≡ length xs
length_words [] = refl
length_words (x ∷ xs) = ap suc (length_words xs)

ends_more : (x : Coded) (xs : List Coded) → Ends closed returned xs → Ends closed returned (x ∷ xs)
ends_more x [] h = absurd (cc)
ends_more x (y ∷ xs) h = h

some_code : (xs : List Coded) → Ends closed returned xs → 0 < length xs
some_code [] h = absurd (cc)
some_code (x ∷ xs) h = omega arith

last_of : (xs : List Coded) → Ends closed returned xs → (i : ℕ) (w : Instruction) → slice_get (words xs) i ≡ Some w → (opcode_of w ≡ Some Return) ⊎ (i + 1 < length xs)
last_of [] h i w there = absurd (cc)
last_of (x ∷ xs) h i w there = last_returns x xs closed h i w there

words_fit : (p : Prototype) (xs : List Coded) (q : ℕ) → AllKept p q xs → list_all word_fits (words xs) ≡ true
words_fit p [] q h = refl
words_fit p (x ∷ xs) q h = ap₂ (λ a b. a && b) h.0.fits (words_fit p xs (suc q) h.1)

-- the code of a function, as a list
pub record IsKept (p : Prototype) (code : List Coded) : Type 0 where
  pub is : p.own.code ≡ words code
  pub kept : AllKept p 0 code
  pub ends : Ends closed returned code

begins_by : (p : Prototype) (a : ℕ) → a < 2 ^ 8 → p.own.vararg ≡ true → Kept p 0 (abc VarArgPrep a 0 0 false)
begins_by p a af v = record {
  opcode = VarArgPrep;
  is = opcode_of-abc VarArgPrep a 0 0 false;
  whole = refl;
  fits = abc_fits VarArgPrep a 0 0 false af (lit< tt) (lit< tt);
  constant = refl;
  upvalue = refl;
  inner = refl;
  lands = refl;
  begins = refl;
  second = refl;
  taken = ap (is_taken p 0) (leaves_none VarArgPrep (abc VarArgPrep a 0 0 false) (opcode_of-abc VarArgPrep a 0 0 false) refl);
  takes = refl;
  fixed = refl;
  varargs = v;
}

-- a function with `...` begins by VARARGPREP
code_kept : (source : Option (List ℕ)) (params : List Name) (vararg : Bool) (inner : Block) (ups : List UpName) (line : ℕ) → FunctionIsNear (function source params vararg inner ups line)
    → BlockIsNear source (function source params vararg inner ups line) inner false (length params) 0 → IsKept (function source params vararg inner ups line) (body_code (BodyOf params vararg inner ups line))
code_kept source params false inner ups line near h =
    let p = function source params false inner ups line in
    let code = whole_code (of_block inner []) (leaving_of false (length params) inner) inner (length params) 0 in
    let piece = whole_piece source params false inner ups line near inner 0 h (grows_none (of_block inner [])) refl in
    let has : Has p 0 code = has_all p [] code refl (λ pc le. and_false (pc == 0)) in
    let land : Land p 0 = record { there = behind_front p closed returned 0 code piece.starts piece.ends has tt; front = tt } in
    record { is = refl; kept = piece.kept land has tt tt; ends = piece.ends }
code_kept source params true inner ups line near h =
    let p = function source params true inner ups line in
    let code = whole_code (of_block inner []) (leaving_of true (length params) inner) inner (length params) 1 in
    let piece = whole_piece source params true inner ups line near inner 1 h (grows_none (of_block inner [])) refl in
    let w = abc VarArgPrep (length params) 0 0 false in
    let is = opcode_of-abc VarArgPrep (length params) 0 0 false in
    let r = near.params in
    let has : Has p 1 code = has_all p ((w, line) ∷ []) code refl (λ pc le. ap (λ b. not (b && true)) (ne_eqb pc 0 (λ e. absurd (omega (arith, le, e))))) in
    let land : Land p 0 = record { there = record { word = w; here = refl; head = record { opcode = VarArgPrep; is = is; alone = refl } }; front = tt } in
    record {
      is = refl;
      kept = (begins_by p (length params) (omega (arith, r)) refl, piece.kept land has (leaves_none VarArgPrep w is refl, begins_none Jmp VarArgPrep w is refl) tt);
      ends = ends_more (w, line) code piece.ends;
    }

module _ (source : Option (List ℕ)) (params : List Name) (vararg : Bool) (inner : Block) (ups : List UpName) (line : ℕ) where
  module _ (near : FunctionIsNear (function source params vararg inner ups line)) (h : BlockIsNear source (function source params vararg inner ups line) inner false (length params) 0) where
    pub places_hold : (pc : ℕ) (w : Instruction) → at (function source params vararg inner ups line) pc ≡ Some w → AllHold (rules (function source params vararg inner ups line) pc w)
    places_hold pc w there =
        let p = function source params vararg inner ups line in
        let code = body_code (BodyOf params vararg inner ups line) in
        let all = code_kept source params vararg inner ups line near h in
        let e : 0 + pc ≡ pc = omega arith in
        let k : Kept p pc w = subst (λ q. Kept p q w) e (kept_at p code 0 all.kept pc w there) in
        let whole = function_whole source params vararg inner ups line near in
        rules_hold p pc w k.opcode k refl (whole.roomy pc w k.opcode there k.is) (last_fits k.opcode (pc + 1) (length (words code)) (by k.opcode k.is (last_of code all.ends pc w there)))
      where
        by : (op : Opcode) → opcode_of w ≡ Some op → (opcode_of w ≡ Some Return) ⊎ (pc + 1 < length (body_code (BodyOf params vararg inner ups line))) → (op ≡ Return) ⊎ (pc + 1 < length (words (body_code (BodyOf params vararg inner ups line))))
        by op is (inl e) = inl (some_same op Return (sym is ∙ e))
        by op is (inr lt) = let l = length_words (body_code (BodyOf params vararg inner ups line)) in inr (omega (arith, lt, l))

    pub code_there : 0 < length (words (body_code (BodyOf params vararg inner ups line)))
    code_there =
        let all = code_kept source params vararg inner ups line near h in
        let some = some_code (body_code (BodyOf params vararg inner ups line)) all.ends in
        let l = length_words (body_code (BodyOf params vararg inner ups line)) in
        omega (arith, some, l)

    pub code_fits : list_all word_fits (words (body_code (BodyOf params vararg inner ups line))) ≡ true
    code_fits = let all = code_kept source params vararg inner ups line near h in words_fit (function source params vararg inner ups line) (body_code (BodyOf params vararg inner ups line)) 0 all.kept
