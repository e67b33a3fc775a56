-- Setting places keeps texts, and the texts of upvalues are those of names, or `_ENV`.
use Rattle.std.proofs.Common.{ℕ, ◌-◌, ◌<◌, ◌^◌, Bool, true, false, not, List, [], ◌∷◌, ◌++◌, length, take, Option, Some, None, refl, arith}
use Rattle.std.specs.Prelude.{map, filter, if◌then◌else◌}
use Rattle.std.specs.List.{list_any}
use Rattle.std.specs.Option.{option_map_or}
use Rattle.std.specs.Str.{bytes_eq}
use Rattle.tree_core.specs.declared.name.Name.{Name}
use Rattle.tree_core.specs.declared.name.Declared.{Declared}
use Rattle.tree_core.specs.declared.name.UpName.{UpName}
use Rattle.tree_core.specs.Tree.{Block, Body, BodyOf, Stat, Local, LocalFunction, NumFor, NumForStep, GenFor, Exp, Int, Str, Var}
use Rattle.scope_core.specs.Scopes.{Scope, Frame, bare, declare, declare_all, declared_variable, plain_variable, generic_hidden, register_of, environment, is_local, is_variable}
use Rattle.scope_core.specs.Parts.{Part, Naming, Located, body_parts}
use Rattle.scope_core.specs.Places.{as_byte, upvalue_number, up_name, outside_name, outside_all, firsts, upvalues_of, placed_names, placed_declared, placed_exp, placed_body, placed_stat, main_upvalues, placed}
use Rattle.code_checked.specs.Written.{TextFits, NamesFit, UpvaluesFit}
use Rattle.grammar_laws.proofs.PlacedParts.{Stays, block_stays}
use Rattle.source_laws.proofs.Texts.{DeclaredTextsFit, exp_texts, stat_texts, body_texts, all_texts, BlockTextsFit, BodyTextsFit}
use Rattle.source_laws.proofs.PartTexts.{PartFits, PartsFit, none, also, body_named}

-- upvalues

abbrev AllFit : List (List ℕ) → Type 0
AllFit [] = Unit {0}
AllFit (text ∷ texts) = TextFits text × AllFit texts

both_fit : (xs ys : List (List ℕ)) → AllFit xs → AllFit ys → AllFit (xs ++ ys)
both_fit [] ys h k = k
both_fit (x ∷ xs) ys h k = (h.0, both_fit xs ys h.1 k)

filtered : (p : List ℕ → Bool) (xs : List (List ℕ)) → AllFit xs → AllFit (filter p xs)
filtered p [] h = tt
filtered p (x ∷ xs) h = by (p x) (filtered p xs h.1)
  where
    by : (b : Bool) → AllFit (filter p xs) → AllFit (if b then x ∷ filter p xs else filter p xs)
    by true k = (h.0, k)
    by false k = k

firsts_fit : (xs : List (List ℕ)) → AllFit xs → AllFit (firsts xs)
firsts_fit [] h = tt
firsts_fit (x ∷ xs) h = (h.0, filtered (λ other. not (bytes_eq x other)) (firsts xs) (firsts_fit xs h.1))

name_outside : (outer : ℕ) (s : Scope) (part : Part) → PartFits part → AllFit (outside_name outer s part)
name_outside outer s (Naming name) h = by (is_variable name.text s.frames)
  where
    found : (b : Bool) (text : List ℕ) → TextFits text → AllFit (if b then [] else text ∷ [])
    found true text k = tt
    found false text k = (k, tt)

    by : (b : Bool) → (let text : List ℕ = (if b then name.text else environment) in AllFit (if list_any (is_local text) (take (length s.frames - outer) s.frames) then [] else text ∷ []))
    by true = found (list_any (is_local name.text) (take (length s.frames - outer) s.frames)) name.text h
    by false = found (list_any (is_local environment) (take (length s.frames - outer) s.frames)) environment refl
name_outside outer s _ h = tt

all_outside : (outer : ℕ) {ps : List Located} → PartsFit ps → AllFit (outside_all outer ps)
all_outside outer none = tt
all_outside outer (also {p = p} {ps = ps} h k) = both_fit (outside_name outer p.around p.part) (outside_all outer ps) (name_outside outer p.around p.part h) (all_outside outer k)

upvalue_fits : (fs : List Frame) (text : List ℕ) → TextFits text → TextFits (up_name fs text).text × ((up_name fs text).index < 2 ^ 8)
upvalue_fits [] text h = (h, omega arith)
upvalue_fits (f ∷ fs) text h = by (register_of text f.variables)
  where
    by : (o : Option ℕ) → (let u : UpName = option_map_or (λ register. record { text = text; in_stack = true; index = as_byte register }) o (record { text = text; in_stack = false; index = upvalue_number text f }) in TextFits u.text × (u.index < 2 ^ 8))
    by None = (h, omega arith)
    by (Some r) = (h, omega arith)

mapped : (fs : List Frame) (texts : List (List ℕ)) → AllFit texts → UpvaluesFit (map (up_name fs) texts)
mapped fs [] h = tt
mapped fs (text ∷ texts) h = let one = upvalue_fits fs text h.0 in (one.0, (one.1, mapped fs texts h.1))

upvalues_fit : (fs : List Frame) (body : Body) → BodyTextsFit body → UpvaluesFit (upvalues_of fs body)
upvalues_fit fs body h =
    let around : Scope = record { frames = bare fs; blocks = []; in_loop = false; is_vararg = false } in
    mapped fs (firsts (outside_all (length fs) (body_parts around body))) (firsts_fit (outside_all (length fs) (body_parts around body)) (all_outside (length fs) (body_named around body h)))

-- names and trees

names_fit : (fs : List Frame) (names : List Name) → NamesFit names → NamesFit (placed_names fs names)
names_fit fs [] h = tt
names_fit fs (x ∷ names) h = (h.0, names_fit (declare fs (plain_variable x)) names h.1)

declared_fit : (fs : List Frame) (names : List Declared) → DeclaredTextsFit names → DeclaredTextsFit (placed_declared fs names)
declared_fit fs [] h = tt
declared_fit fs (d ∷ names) h = (h.0, declared_fit (declare fs (declared_variable d)) names h.1)

exp_stays : (p q : Type 0) (fs : List Frame) (e : Exp) → exp_texts e p → (p → q) → exp_texts (placed_exp fs e) q
exp_stays p q fs (Int line z) h k = h
exp_stays p q fs (Str line bytes) h k = h
exp_stays p q fs (Var line name) h k = h
exp_stays p q fs _ h k = k h

stat_stays : (p q : Type 0) (fs : List Frame) (s : Stat) → stat_texts s p → (p → q) → stat_texts (placed_stat fs s) q
stat_stays p q fs (Local line names es) h k = (declared_fit fs names h.0, k h.1)
stat_stays p q fs (LocalFunction line name body) h k = (h.0, k h.1)
stat_stays p q fs (NumFor line name from limit block) h k = (h.0, k h.1)
stat_stays p q fs (NumForStep line name from limit step block) h k = (h.0, k h.1)
stat_stays p q fs (GenFor line names es block) h k = (names_fit (declare_all fs generic_hidden) names h.0, k h.1)
stat_stays p q fs _ h k = k h

body_stays : (q : Type 0) (fs : List Frame) (params : List Name) (vararg : Bool) (inner : Block) (ups : List UpName) (line : ℕ)
    → BodyTextsFit (BodyOf params vararg inner ups line) → (BlockTextsFit inner → q) → body_texts (placed_body fs (BodyOf params vararg inner ups line)) q
body_stays q fs params vararg inner ups line h k =
    let begin : List Frame = record { variables = []; upvalues = upvalues_of fs (BodyOf params vararg inner ups line) } ∷ fs in
    (names_fit begin params h.0, (upvalues_fit fs (BodyOf params vararg inner ups line) h, k h.1.1))

texts_stay : Stays all_texts
texts_stay = record {
  exp = exp_stays;
  name = λ p q x h k. (h.0, k h.1);
  stat = stat_stays;
  loop = λ p q fs b h k. k h;
  block = λ p q fs b h k. k h;
  body = body_stays;
}

pub placed_fits : (block : Block) → BlockTextsFit block → BodyTextsFit (placed block)
placed_fits block h =
    (tt, ((refl, (omega arith, tt)), block_stays all_texts texts_stay (record { variables = []; upvalues = main_upvalues } ∷ []) block h))
