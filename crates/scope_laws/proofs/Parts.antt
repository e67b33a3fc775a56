-- Parts that keep the rules, and how many locals are in scope where they stand.
use Rattle.std.proofs.Common.{rules, arith, ℕ, suc, ◌+◌, ◌≡◌, ◌≤◌, Bool, true, false, not, List, [], ◌∷◌, ◌++◌, refl, ap, subst, length}
use Rattle.std.specs.Prelude.{flat_map, nat_lt}
use Rattle.std.proofs.lemmas.Bool.{ltb-false}
use Rattle.std.proofs.lemmas.List.{length-map}
use Rattle.tree_core.specs.declared.name.Name.{Name}
use Rattle.tree_core.specs.declared.name.Declared.{Declared}
use Rattle.tree_core.specs.Tree.{Block, Falls, Returns, Stats, EndStats, MoreStats, Stat, Local, LocalFunction}
use Rattle.scope_core.specs.declared.variable.Variable.{Variable}
use Rattle.scope_core.specs.Scopes.{Scope, Frame, declare, declare_all, declared_by, declared_variable, plain_variable, behind, behind_stats}
use Rattle.scope_core.specs.Parts.{Located, with_variables, declarations, name_declarations}
use Rattle.scope_core.specs.Rules.{breach, locals, held_violations, part_violations}
use Rattle.tree_terms.specs.Levels.{level_after, levels_after, levels_in}

-- each part keeps the rules
abbrev pub Kept : List Located → Type 0
Kept [] = Unit {0}
Kept (p ∷ ps) = (part_violations p.around p.part ≡ []) × Kept ps

pub none_of : {X : Type 0} (xs ys : List X) → xs ++ ys ≡ [] → (xs ≡ []) × (ys ≡ [])
none_of [] ys e = (refl, e)
none_of (x ∷ xs) ys e = absurd (search rules)

pub kept_all : (ps : List Located) → flat_map (λ (located : Located). part_violations located.around located.part) ps ≡ [] → Kept ps
kept_all [] e = tt
kept_all (p ∷ ps) e =
    let both = none_of (part_violations p.around p.part) (flat_map (λ (located : Located). part_violations located.around located.part) ps) e in
    (both.0, kept_all ps both.1)

pub front : (ps qs : List Located) → Kept (ps ++ qs) → Kept ps
front [] qs k = tt
front (p ∷ ps) qs k = (k.0, front ps qs k.1)

pub back : (ps qs : List Located) → Kept (ps ++ qs) → Kept qs
back [] qs k = k
back (p ∷ ps) qs k = back ps qs k.1

pub unbroken : (b : Bool) (line rule : ℕ) → breach b line rule ≡ [] → b ≡ false
unbroken true line rule e = absurd (search rules)
unbroken false line rule e = refl

pub allowed : (b : Bool) (line rule : ℕ) → breach (not b) line rule ≡ [] → b ≡ true
allowed true line rule e = refl
allowed false line rule e = absurd (search rules)

pub at_most : (limit n line rule : ℕ) → breach (nat_lt limit n) line rule ≡ [] → n ≤ limit
at_most limit n line rule e = ltb-false limit n (unbroken (nat_lt limit n) line rule e)

-- so many locals of the innermost function are in scope
abbrev pub HasLevel : List Frame → ℕ → Type 0
HasLevel [] t = ⊥
HasLevel (f ∷ fs) t = length f.variables ≡ t

pub has_locals : (fs : List Frame) (t : ℕ) → HasLevel fs t → locals fs ≡ t
has_locals [] t h = absurd h
has_locals (f ∷ fs) t h = h

pub same_level : (fs : List Frame) (t u : ℕ) → t ≡ u → HasLevel fs t → HasLevel fs u
same_level fs t u e h = subst (HasLevel fs) e h

pub level_declared : (fs : List Frame) (vs : List Variable) (t : ℕ) → HasLevel fs t → HasLevel (declare_all fs vs) (t + length vs)
level_declared fs [] t h = same_level fs t (t + 0) (omega arith) h
level_declared [] (v ∷ vs) t h = absurd h
level_declared (f ∷ fs) (v ∷ vs) t h =
    same_level (declare_all (declare (f ∷ fs) v) vs) (suc t + length vs) (t + suc (length vs)) (omega arith)
    (level_declared (declare (f ∷ fs) v) vs (suc t) (ap suc h))

pub level_by : (s : Stat) (t : ℕ) → t + length (declared_by s) ≡ level_after s t
level_by (Local line names es) t = ap (λ n. t + n) (length-map names declared_variable)
level_by (LocalFunction line name body) t = refl
level_by _ t = omega arith

pub level_step : (s : Stat) (fs : List Frame) (t : ℕ) → HasLevel fs t → HasLevel (declare_all fs (declared_by s)) (level_after s t)
level_step s fs t h =
    same_level (declare_all fs (declared_by s)) (t + length (declared_by s)) (level_after s t) (level_by s t) (level_declared fs (declared_by s) t h)

pub level_behind_stats : (ss : Stats) (fs : List Frame) (t : ℕ) → HasLevel fs t → HasLevel (behind_stats fs ss) (levels_after ss t)
level_behind_stats EndStats fs t h = h
level_behind_stats (MoreStats s ss) fs t h = level_behind_stats ss (declare_all fs (declared_by s)) (level_after s t) (level_step s fs t h)

pub level_behind : (b : Block) (fs : List Frame) (t : ℕ) → HasLevel fs t → HasLevel (behind fs b) (levels_in b t)
level_behind (Falls ss tokens line) fs t h = level_behind_stats ss fs t h
level_behind (Returns ss es tokens line) fs t h = level_behind_stats ss fs t h

-- what the limits say of so many locals

pub declares_few : (fs : List Frame) (t line : ℕ) → HasLevel fs t → breach (nat_lt 200 (locals fs)) line 9 ≡ [] → t ≤ 200
declares_few fs t line h e = subst (λ n. n ≤ 200) (has_locals fs t h) (at_most 200 (locals fs) line 9 e)

pub holds_few : (s : Scope) (t count line : ℕ) → HasLevel s.frames t → held_violations s line count ≡ [] → t + count ≤ 250
holds_few s t count line h e = subst (λ n. n + count ≤ 250) (has_locals s.frames t h) (at_most 250 (locals s.frames + count) line 11 e)

pub names_few : (names : List Name) (s : Scope) (t : ℕ) → HasLevel s.frames t → t ≤ 200 → Kept (name_declarations s names) → t + length names ≤ 200
names_few [] s t h most k = omega (arith, most)
names_few (name ∷ names) s t h most k =
    let within : Scope = with_variables s (plain_variable name ∷ []) in
    let level : HasLevel within.frames (t + 1) = level_declared s.frames (plain_variable name ∷ []) t h in
    let one : t + 1 ≤ 200 = declares_few within.frames (t + 1) name.line level k.0 in
    let rest : t + 1 + length names ≤ 200 = names_few names within (t + 1) level one k.1 in
    omega (arith, rest)

pub declared_few : (names : List Declared) (s : Scope) (t : ℕ) → HasLevel s.frames t → t ≤ 200 → Kept (declarations s names) → t + length names ≤ 200
declared_few [] s t h most k = omega (arith, most)
declared_few (d ∷ names) s t h most k =
    let within : Scope = with_variables s (declared_variable d ∷ []) in
    let level : HasLevel within.frames (t + 1) = level_declared s.frames (declared_variable d ∷ []) t h in
    let one : t + 1 ≤ 200 = declares_few within.frames (t + 1) d.name.line level k.0 in
    let rest : t + 1 + length names ≤ 200 = declared_few names within (t + 1) level one k.1 in
    omega (arith, rest)
