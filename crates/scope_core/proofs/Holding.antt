-- Numbers of held values, counted up to a limit.
use Rattle.std.proofs.Common.{arith, ℕ, Bool, true, false, ◌+◌, ◌*◌, ◌≡◌, ◌≤◌, ◌<◌, List, [], ◌∷◌, Option, Some, None, refl, sym, ap, ◌∙◌, length, map, min, max, drop}
use Rattle.std.specs.Prelude.{slice_index_or, nat_lt}
use Rattle.std.proofs.lemmas.List.{drop_more}
use Rattle.std.proofs.lemmas.Grind.{common_steps}
use Rattle.tree_core.specs.declared.tree.Exp.{Exp}
use Rattle.tree_core.specs.Tree as tree
use Rattle.tree_core.specs.Plain.{plain_exp, plain_exps, if_of}
use Rattle.scope_core.specs.Held.{count, held, held_behind, held_targets, held_tests, held_stat}

pub counted : (es : List Exp) → count (tree.exps (plain_exps es)) ≡ length es
counted [] = refl
counted (e ∷ es) = omega (arith, counted es)

-- an item of a list begins what is left of it
pub front : {X : Type 0} (xs : List X) (i : ℕ) (x : X) → i < length xs → x ≡ slice_index_or xs i x → drop i xs ≡ x ∷ drop (i + 1) xs
front xs i x h e = drop_more xs i x h ∙ ap (λ y. y ∷ drop (i + 1) xs) (sym e)

-- what a list holds whose values stand some places apart, behind some that are held already
record Behind (holds : ℕ → tree.Exps → ℕ) (width : ℕ) : Type 0 where
  none : (n : ℕ) → holds n tree.EndExps ≡ 0
  more : (n : ℕ) (e : tree.Exp) (es : tree.Exps) → holds n (tree.MoreExps e es) ≡ max (n + held e) (holds (n + width) es)

-- the values of a list, and the targets of an assignment
behind : Behind held_behind 1
behind = record { none = λ n. refl; more = λ n e es. refl }

targets : Behind held_targets 2
targets = record { none = λ n. refl; more = λ n e es. refl }

-- behind more values than are counted it does not matter how many there are
many : (holds : ℕ → tree.Exps → ℕ) (width : ℕ) → Behind holds width → (b c : ℕ) (es : tree.Exps) → 1000 ≤ b → 1000 ≤ c → min (holds b es) 1000 ≡ min (holds c es) 1000
many holds width l b c tree.EndExps hb hc = ap (λ n. min n 1000) (l.none b ∙ sym (l.none c))
many holds width l b c (tree.MoreExps e es) hb hc = omega (arith, hb, hc, l.more b e es, l.more c e es)

capped : (holds : ℕ → tree.Exps → ℕ) (width : ℕ) → Behind holds width → (b c : ℕ) (es : tree.Exps) → c ≡ min b 1000 → min (holds c es) 1000 ≡ min (holds b es) 1000
capped holds width l b c es e = by_size (nat_lt b 1000) refl
  where
    by_size : (small : Bool) → nat_lt b 1000 ≡ small → min (holds c es) 1000 ≡ min (holds b es) 1000
    by_size true test =
        let small : b ≤ 1000 = grind (arith, common_steps) in
        ap (λ n. min (holds n es) 1000) (omega (arith, e, small))
    by_size false test =
        let large : 1000 ≤ b = grind (arith, common_steps) in
        many holds width l c b es (omega (arith, e, large)) large

-- an item that is met leaves what the list holds in all
abbrev pub Steps : (ℕ → tree.Exps → ℕ) → ℕ → Type 0
Steps holds width =
    (xs : List Exp) (i : ℕ) (x : Exp) (next most within cap next' most' all : ℕ)
    → i < length xs → x ≡ slice_index_or xs i x
    → min (max most (holds next (tree.exps (plain_exps (drop i xs))))) 1000 ≡ all
    → within ≡ min (held (plain_exp x)) 1000 → cap ≡ min (next + within) 1000 → most' ≡ max most cap → next' ≡ min (next + width) 1000
    → min (max most' (holds next' (tree.exps (plain_exps (drop (i + 1) xs))))) 1000 ≡ all

step : (holds : ℕ → tree.Exps → ℕ) (width : ℕ) → Behind holds width → Steps holds width
step holds width l xs i x next most within cap next' most' all h is known w c m n =
    let rest : tree.Exps = tree.exps (plain_exps (drop (i + 1) xs)) in
    let split : min (max most (holds next (tree.MoreExps (plain_exp x) rest))) 1000 ≡ all =
    ap (λ ys. min (max most (holds next (tree.exps (plain_exps ys)))) 1000) (sym (front xs i x h is)) ∙ known in
    let same : min (holds next' rest) 1000 ≡ min (holds (next + width) rest) 1000 = capped holds width l (next + width) next' rest n in
    omega (arith, split, l.more next (plain_exp x) rest, same, w, c, m)

pub list_step : Steps held_behind 1
list_step = step held_behind 1 behind

pub target_step : Steps held_targets 2
target_step = step held_targets 2 targets

-- a call, from what is called and its arguments
pub called : (before result within arguments : ℕ) (e : tree.Exp) (es : List Exp) → result ≡ max within arguments → within ≡ min (held e) 1000 → arguments ≡ min (max (max 3 (length es + before)) (held_behind before (tree.exps (plain_exps es)))) 1000 → result ≡ min (max (max 3 (count (tree.exps (plain_exps es)) + before)) (max (held e) (held_behind before (tree.exps (plain_exps es))))) 1000
called before result within arguments e es r w a = omega (arith, r, w, a, counted es)

-- the values of an assignment, behind at most as many as are counted
pub counted_behind : (n c b : ℕ) (es : tree.Exps) → c ≡ min n 1000 → b ≡ min (2 * c) 1000 → min (held_behind b es) 1000 ≡ min (held_behind (2 * n) es) 1000
counted_behind n c b es e f = capped held_behind 1 behind (2 * n) b es (omega (arith, e, f))

pub held_if : (line : ℕ) (as' : List (tree.Exp × tree.Block)) (otherwise : Option tree.Block) → held_stat (if_of line as' otherwise) ≡ held_tests (tree.arms as')
held_if line as' None = refl
held_if line as' (Some block) = refl
