-- The code of a whole function keeps the rules on each of its instructions.
use Rattle.std.proofs.Common.{◌≡◌, ℕ, zero, suc, ◌+◌, ◌<◌, ◌≤◌, ◌^◌, max, lit<, Bool, true, false, not, cond, ◌&&◌, ◌||◌, ◌==◌, List, [], ◌∷◌, ◌++◌, length, Option, Some, None, slice_get, refl, sym, ap, ap₂, subst, ◌∙◌, arith, append_assoc, length-append, lt-ltb, ◌⊎◌, inl, inr}
use Rattle.std.specs.Prelude.{nat_lt}
use Rattle.std.specs.List.{list_all}
use Rattle.tree_core.specs.declared.name.Name.{Name}
use Rattle.tree_core.specs.declared.name.UpName.{UpName}
use Rattle.tree_core.specs.Tree.{Block, Falls, Returns, Body, BodyOf}
use Rattle.code_core.specs.declared.opcode.Opcode.{Opcode}
use Rattle.code_core.specs.declared.opcode.Opcode.TheVariants.{Return}
use Rattle.code_core.specs.declared.instruction.Instruction.{Instruction}
use Rattle.code_core.specs.Instruction.{opcode_of}
use Rattle.code_core.specs.Fields.{registers, is_return}
use Rattle.code_core.specs.Prototype.{Prototype, none}
use Rattle.code_core.specs.Check.{opcode_rules, rules_by, rules, AllHold}
use Rattle.code_of.specs.Coded.{Coded, words}
use Rattle.code_of.specs.Constants.{of_exps, of_stats, of_block}
use Rattle.code_of.specs.Jumps.{Reach}
use Rattle.code_of.specs.Levels.{made_in_block}
use Rattle.tree_terms.specs.Levels.{levels_after}
use Rattle.code_of.specs.Statements.{whole_code}
use Rattle.code_of.specs.CodeOf.{back_field, leaving_of, opening, body_code, named_by, room_for, room, from_block, from_exps, code_of}
use Rattle.code_checked.specs.Near.{IsRegister, BlockIsNear, FunctionIsNear}
use Rattle.code_checked.proofs.Pieces.{Seam, closed, returned, Ends, Land, Has, Kept, AllKept, Piece, both}
use Rattle.code_checked.proofs.Found.{Grows, grows_then}
use Rattle.code_checked.proofs.Loads.{Whole, Functions}
use Rattle.code_checked.proofs.Growing.{grows_exps}
use Rattle.code_checked.proofs.Calls.{return_piece}
use Rattle.code_checked.proofs.Reaching.{Reaches}
use Rattle.code_checked.proofs.Stats.{result_piece}
use Rattle.code_checked.proofs.Sequences.{stats_law, levels_register}

-- the frame has room for each register that an instruction names

more_room : (rs : List ℕ) (n : ℕ) → n ≤ room_for rs n
more_room [] n = omega arith
more_room (r ∷ rs) n = let h = more_room rs (max n (r + 1)) in omega (arith, h)

named_room : (rs : List ℕ) (n m : ℕ) → room_for rs n ≤ m → list_all (λ r. nat_lt r m) rs ≡ true
named_room [] n m h = refl
named_room (r ∷ rs) n m h =
    let i = more_room rs (max n (r + 1)) in
    ap₂ (λ a b. a && b) (lt-ltb r m (omega (arith, h, i))) (named_room rs (max n (r + 1)) m h)

pub whole_room : (ws : List Instruction) (n : ℕ) → n ≤ room ws n
whole_room [] n = omega arith
whole_room (w ∷ ws) n = let h = more_room (named_by w) n in let i = whole_room ws (room_for (named_by w) n) in omega (arith, h, i)

all_room : (ws : List Instruction) (n i : ℕ) (w : Instruction) → slice_get ws i ≡ Some w → list_all (λ r. nat_lt r (room ws n)) (named_by w) ≡ true
all_room [] n i w h = absurd (cc)
all_room (v ∷ ws) n zero w h =
    let same : v ≡ w = cc in
    subst (λ u. list_all (λ r. nat_lt r (room (v ∷ ws) n)) (named_by u) ≡ true) same (named_room (named_by v) n (room (v ∷ ws) n) (whole_room ws (room_for (named_by v) n)))
all_room (v ∷ ws) n (suc i) w h = all_room ws (room_for (named_by v) n) i w h

registers_room : (ws : List Instruction) (n i : ℕ) (w : Instruction) (op : Opcode) → slice_get ws i ≡ Some w → opcode_of w ≡ Some op → list_all (λ r. nat_lt r (room ws n)) (registers op w) ≡ true
registers_room ws n i w op there is =
    subst (λ o. list_all (λ r. nat_lt r (room ws n)) (elim o as (λ _. List ℕ) [ None ↦ [] | Some op ↦ registers op w ]) ≡ true) is (all_room ws n i w there)

-- places of a list

seam_word : (front : List Coded) (x : Coded) (code : List Coded) → slice_get (words (front ++ x ∷ code)) (length front) ≡ Some x.0
seam_word [] x code = refl
seam_word (y ∷ front) x code = seam_word front x code

length_more : (front : List Coded) (x : Coded) → length (front ++ x ∷ []) ≡ suc (length front)
length_more front x = let e = length-append front (x ∷ []) in omega (arith, e)

module _ (p : Prototype) where
  -- code of the whole function behind a first part
  pub has_all : (front code : List Coded) → p.own.code ≡ words (front ++ code) → ((pc : ℕ) → length front ≤ pc → not (pc == 0 && p.own.vararg) ≡ true) → Has p (length front) code
  has_all front [] whole past = tt
  has_all front (x ∷ code) whole past =
      let e : (front ++ x ∷ []) ++ code ≡ front ++ x ∷ code = append_assoc front (x ∷ []) code in
      let l = length_more front x in (
        ap (λ ws. slice_get ws (length front)) whole ∙ seam_word front x code,
        past (length front) (omega arith),
        subst (λ q. Has p q code) l (has_all (front ++ x ∷ []) code (whole ∙ ap words (sym e)) (λ pc le. past pc (omega (arith, le, l)))),
      )

  pub kept_at : (xs : List Coded) (q : ℕ) → AllKept p q xs → (i : ℕ) (w : Instruction) → slice_get (words xs) i ≡ Some w → Kept p (q + i) w
  kept_at [] q h i w there = absurd (cc)
  kept_at (x ∷ xs) q h zero w there =
      let e : q ≡ q + 0 = omega arith in
      let same : x.0 ≡ w = cc in
      subst (λ k. Kept p k w) e (subst (Kept p q) same h.0)
  kept_at (x ∷ xs) q h (suc i) w there =
      let e : suc q + i ≡ q + suc i = omega arith in
      subst (λ k. Kept p k w) e (kept_at xs (suc q) h.1 i w there)

-- the last instruction is a RETURN
pub last_returns : (x : Coded) (xs : List Coded) (f : Seam) → Ends f returned (x ∷ xs) → (i : ℕ) (w : Instruction) → slice_get (words (x ∷ xs)) i ≡ Some w → (opcode_of w ≡ Some Return) ⊎ (i + 1 < length (x ∷ xs))
last_returns x [] f ends zero w there = let same : x.0 ≡ w = cc in inl (subst (λ u. opcode_of u ≡ Some Return) same ends.2)
last_returns x [] f ends (suc i) w there = absurd (cc)
last_returns x (y ∷ xs) f ends zero w there = inr (omega arith)
last_returns x (y ∷ xs) f ends (suc i) w there = by (last_returns y xs f ends i w there)
  where
    by : (opcode_of w ≡ Some Return) ⊎ (i + 1 < length (y ∷ xs)) → (opcode_of w ≡ Some Return) ⊎ (suc i + 1 < length (x ∷ y ∷ xs))
    by (inl h) = inl h
    by (inr h) = inr (omega (arith, h))

-- what is kept is what the rules ask for
pub rules_hold : (p : Prototype) (pc : ℕ) (w : Instruction) (op : Opcode) (k : Kept p pc w) → k.opcode ≡ op → list_all (λ r. nat_lt r p.own.stack) (registers op w) ≡ true → (is_return op || nat_lt (pc + 1) (length p.own.code)) ≡ true → AllHold (rules p pc w)
rules_hold p pc w op k same room last =
    let op' = k.opcode in
    subst (λ o. AllHold (rules_by p pc w o)) (sym k.is)
    (subst (λ b. AllHold (cond b ((2, true) ∷ opcode_rules p pc w k.opcode) ((2, false) ∷ []))) (sym k.whole) (
      refl,
      (
        subst (λ o. list_all (λ r. nat_lt r p.own.stack) (registers o w) ≡ true) (sym same) room,
        (
          k.constant,
          (
            k.upvalue,
            (
              k.inner,
              (
                k.lands,
                (
                  both_true k.begins k.second,
                  (subst (λ o. (is_return o || nat_lt (pc + 1) (length p.own.code)) ≡ true) (sym same) last, (both_true k.taken (both_true k.takes k.fixed), (k.varargs, tt))),
                ),
              ),
            ),
          ),
        ),
      ),
    ))
  where
    both_true : {a b : Bool} → a ≡ true → b ≡ true → (a && b) ≡ true
    both_true {a} {b} h e = ap₂ (λ a b. a && b) h e

pub last_fits : (op : Opcode) (n m : ℕ) → (op ≡ Return) ⊎ (n < m) → (is_return op || nat_lt n m) ≡ true
last_fits op n m (inl e) = subst (λ o. (is_return o || nat_lt n m) ≡ true) (sym e) refl
last_fits op n m (inr h) = ap (λ b. is_return op || b) (lt-ltb n m h) ∙ or_true (is_return op)
  where
    or_true : (b : Bool) → (b || true) ≡ true
    or_true true = refl
    or_true false = refl

pub some_same : {A : Type 0} (x y : A) → Some x ≡ Some y → x ≡ y
some_same x y e = cc

module _ (source : Option (List ℕ)) (params : List Name) (vararg : Bool) (inner : Block) (ups : List UpName) (line : ℕ) where
  abbrev pub body : Body
  body = BodyOf params vararg inner ups line

  abbrev pub function : Prototype
  function = code_of source body

  -- the field C of a RETURN
  back_fits : (b : Bool) (n : ℕ) → IsRegister n → back_field b n < 2 ^ 8
  back_fits true n h = omega (arith, h)
  back_fits false n h = lit< tt

  pub function_whole : FunctionIsNear function → Whole function
  function_whole near = record {
    constants = near.constants;
    functions = near.functions;
    upvalues = near.upvalues;
    returns = back_fits vararg (length params) near.params;
    short = near.code;
    roomy = λ pc w op there is. registers_room (words (body_code body)) (length params) pc w op there is;
  }

  module _ (near : FunctionIsNear function) where
    abbrev W : Whole function
    W = function_whole near

    abbrev begin : List Coded
    begin = opening vararg (length params) line

    abbrev code : List Coded
    code = whole_code (of_block inner []) (leaving_of vararg (length params) inner) inner (length params) (length begin)

    nowhere : Reach
    nowhere = record { labels = []; exit = None }

    reaches : Land function 0 → Reaches function (record { labels = []; exit = None })
    reaches h = record { begin = h; labels = tt; exit = tt }

    -- the code behind VARARGPREP
    pub whole_piece : (block : Block) (pc : ℕ) → BlockIsNear source function block false (length params) 0 → Grows (of_block block []) (of_block inner []) → Functions function 0 (from_block source block none)
        → Piece function (Land function 0) closed returned pc (whole_code (of_block inner []) (leaving_of vararg (length params) inner) block (length params) pc)
    whole_piece (Falls ss tokens end) pc h g fs =
        let r = near.params in
        let seq = stats_law function W source (nat_lt 0 (made_in_block inner)) ss (Land function 0) true false 0 (length params) 0 pc [] (record { labels = []; exit = None }) [] none reaches (λ x. tt) h r (omega arith) g fs in
        let levels = levels_register function W source (nat_lt 0 (made_in_block inner)) ss false (length params) 0 h r in
        both function seq.piece (return_piece function closed (levels_after ss (length params)) 1 (back_field vararg (length params)) end (omega (arith, levels)) (lit< tt) W.returns (lit< tt))
    whole_piece (Returns ss es tokens end) pc h g fs =
        let r = near.params in
        let seq = stats_law function W source (nat_lt 0 (made_in_block inner)) ss (Land function 0) false false 0 (length params) 0 pc [] (record { labels = []; exit = None }) [] (from_exps source es none) reaches (λ x. tt) h.0 r (omega arith)
        (grows_then (of_stats ss []) (of_exps es (of_stats ss [])) (of_block inner []) (grows_exps es (of_stats ss [])) g) fs in
        both function seq.piece (result_piece function W source (nat_lt 0 (made_in_block inner)) (Land function 0) ss es false (length params) 0 _ end [] none h.1 g fs)
