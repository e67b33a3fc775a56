-- The constants of a tree are in the table of its function, each at its number.
use Rattle.std.proofs.Common.{◌≡◌, ℕ, suc, ◌<◌, Bool, true, false, cond, List, [], ◌∷◌, ◌++◌, length, Option, Some, None, slice_get, refl, sym, ap, subst, ◌∙◌, arith, append_assoc}
use Rattle.code_core.specs.declared.proto.Const.{Const}
use Rattle.code_core.specs.declared.proto.Const.TheVariants.{Int as IntConst, Str as StrConst}
use Rattle.code_core.specs.Fields.{name}
use Rattle.code_core.specs.Check.{constant_is}
use Rattle.code_of.specs.Constants.{same_constant, number_in, with_constant, with_any}

-- a table that goes on
pub record Grows (cs ds : List Const) : Type 0 where
  pub others : List Const
  pub is : ds ≡ cs ++ others

pub grows_none : (cs : List Const) → Grows cs cs
grows_none cs = record { others = []; is = sym (append_nil cs) }
  where
    append_nil : (cs : List Const) → cs ++ [] ≡ cs
    append_nil [] = refl
    append_nil (c ∷ cs) = ap (λ ds. c ∷ ds) (append_nil cs)

pub grows_then : (cs ds es : List Const) → Grows cs ds → Grows ds es → Grows cs es
grows_then cs ds es a b = record { others = a.others ++ b.others; is = b.is ∙ ap (λ l. l ++ b.others) a.is ∙ append_assoc cs a.others b.others }

pub grows_with : (x : Const) (cs : List Const) → Grows cs (with_constant x cs)
grows_with x [] = record { others = x ∷ []; is = refl }
grows_with x (c ∷ cs) = by (same_constant c x) (grows_with x cs)
  where
    by : (b : Bool) → Grows cs (with_constant x cs) → Grows (c ∷ cs) (cond b (c ∷ cs) (c ∷ with_constant x cs))
    by true rest = grows_none (c ∷ cs)
    by false rest = record { others = rest.others; is = ap (λ l. c ∷ l) rest.is }

pub grows_any : (o : Option Const) (cs : List Const) → Grows cs (with_any o cs)
grows_any None cs = grows_none cs
grows_any (Some x) cs = grows_with x cs

below_with : (x : Const) → same_constant x x ≡ true → (cs : List Const) → number_in (with_constant x cs) x < length (with_constant x cs)
below_with x same [] = let e : number_in (x ∷ []) x ≡ 0 = ap (λ b. cond b 0 (suc (number_in [] x))) same in omega (arith, e)
below_with x same (c ∷ cs) = by (same_constant c x) refl (below_with x same cs)
  where
    by : (b : Bool) → same_constant c x ≡ b → number_in (with_constant x cs) x < length (with_constant x cs)
        → number_in (cond b (c ∷ cs) (c ∷ with_constant x cs)) x < length (cond b (c ∷ cs) (c ∷ with_constant x cs))
    by true e rest = let n : number_in (c ∷ cs) x ≡ 0 = ap (λ b. cond b 0 (suc (number_in cs x))) e in omega (arith, n)
    by false e rest = let n : number_in (c ∷ with_constant x cs) x ≡ suc (number_in (with_constant x cs) x) = ap (λ b. cond b 0 (suc (number_in (with_constant x cs) x))) e in omega (arith, n, rest)

below_grown : (x : Const) (cs others : List Const) → number_in cs x < length cs → number_in (cs ++ others) x < length (cs ++ others)
below_grown x [] others h = absurd (omega arith)
below_grown x (c ∷ cs) others h = by (same_constant c x) refl (below_grown x cs others)
  where
    by : (b : Bool) → same_constant c x ≡ b → (number_in cs x < length cs → number_in (cs ++ others) x < length (cs ++ others))
        → number_in (c ∷ cs ++ others) x < length (c ∷ cs ++ others)
    by true e rest = let n : number_in (c ∷ cs ++ others) x ≡ 0 = ap (λ b. cond b 0 (suc (number_in (cs ++ others) x))) e in omega (arith, n)
    by false e rest =
        let m : number_in (c ∷ cs) x ≡ suc (number_in cs x) = ap (λ b. cond b 0 (suc (number_in cs x))) e in
        let n : number_in (c ∷ cs ++ others) x ≡ suc (number_in (cs ++ others) x) = ap (λ b. cond b 0 (suc (number_in (cs ++ others) x))) e in
        let below = rest (omega (arith, h, m)) in
        omega (arith, n, below)

-- a constant of the table, which is the wanted one up to a test
pub record IsIn (cs : List Const) (x : Const) : Type 0 where
  pub below : number_in cs x < length cs
  pub entry : Const
  pub there : slice_get cs (number_in cs x) ≡ Some entry
  pub alike : same_constant entry x ≡ true

found : (x : Const) (cs : List Const) → number_in cs x < length cs → IsIn cs x
found x [] h = absurd (omega arith)
found x (c ∷ cs) h = by (same_constant c x) refl (found x cs)
  where
    by : (b : Bool) → same_constant c x ≡ b → (number_in cs x < length cs → IsIn cs x) → IsIn (c ∷ cs) x
    by true e rest = record { below = h; entry = c; there = ap (slice_get (c ∷ cs)) (ap (λ b. cond b 0 (suc (number_in cs x))) e); alike = e }
    by false e rest =
        let n : number_in (c ∷ cs) x ≡ suc (number_in cs x) = ap (λ b. cond b 0 (suc (number_in cs x))) e in
        let i = rest (omega (arith, h, n)) in
        record { below = h; entry = i.entry; there = ap (slice_get (c ∷ cs)) n ∙ i.there; alike = i.alike }

-- what was put into a table that goes on to be cs
pub is_in : (x : Const) → same_constant x x ≡ true → (before cs : List Const) → Grows (with_constant x before) cs → IsIn cs x
is_in x same before cs g =
    let all = with_constant x before ++ g.others in
    found x cs (subst (λ l. number_in l x < length l) (sym g.is) (below_grown x (with_constant x before) g.others (below_with x same before)))

-- an entry that is like a string is one
pub is_name : (text : List ℕ) (entry : Const) → same_constant entry (StrConst text) ≡ true → constant_is name entry ≡ true
is_name text (StrConst s) h = refl
is_name text (IntConst z) h = absurd (cc)
is_name text x h = absurd (cc)
