-- The place of a name, once the functions around it have the variable that it needs.
use Rattle.std.proofs.Common.{arith, ℕ, ◌≡◌, ◌<◌, Bool, true, false, ◌||◌, List, [], ◌∷◌, ◌++◌, Option, Some, None, refl, sym, ap, ◌∙◌, length, take, reverse, if◌then◌else◌}
use Rattle.std.specs.Prelude.{is_some}
use Rattle.std.specs.List.{list_any}
use Rattle.std.specs.Option.{option_map_or}
use Rattle.std.specs.Str.{bytes_eq}
use Rattle.std.proofs.lemmas.List.{take_all, length-reverse}
use Rattle.std.proofs.lemmas.List.Sorted.{list_any-IsPermutation, IsPermutation-reverse}
use Rattle.tree_core.specs.declared.name.Place.TheVariants.{Local as InRegister, Upvalue, GlobalIn, GlobalOf}
use Rattle.tree_core.specs.declared.name.UpName.{UpName}
use Rattle.scope_core.specs.declared.frame.Source.{Source}
use Rattle.scope_core.specs.Scopes.{Frame, register_of, environment, is_local, is_variable}
use Rattle.scope_core.specs.Places.{as_byte, upvalue_number, up_name, place_of, variable_place, global_place}
use Rattle.scope_core.specs.Reaching.{declared_at, up_name_at, source_in, reached, local_place, global_place_at}

any_reversed : (text : List ℕ) (xs : List Frame) → list_any (is_local text) xs ≡ list_any (is_local text) (reverse xs)
any_reversed text xs = list_any-IsPermutation (is_local text) xs (reverse xs) (IsPermutation-reverse xs)

pub variable_among : (text : List ℕ) (xs : List Frame) (found : Bool) → bytes_eq text environment ≡ false → found ≡ list_any (is_local text) xs → found ≡ is_variable text (reverse xs)
variable_among text xs found other any =
    any ∙ any_reversed text xs ∙ ap (λ b. b || list_any (is_local text) (reverse xs)) (sym other)

-- naming a variable declares none
same_locals : (text t : List ℕ) (frames : List Frame) → list_any (is_local text) (reached frames t) ≡ list_any (is_local text) frames
same_locals text t [] = refl
same_locals text t (frame ∷ frames) = by_source (is_some (source_in t frame)) (same_locals text t frames)
  where
    by_source : (b : Bool) → list_any (is_local text) (reached frames t) ≡ list_any (is_local text) frames → list_any (is_local text) (if b then frame ∷ frames else (record frame { upvalues = frame.upvalues ++ up_name (reached frames t) t ∷ [] } ∷ reached frames t)) ≡ list_any (is_local text) (frame ∷ frames)
    by_source true same = refl
    by_source false same = ap (λ b. is_local text frame || b) same

local_by : (text : List ℕ) (register : Option ℕ) (number : ℕ) (s : Source) → option_map_or (λ r. up_name_at text (declared_at r)) register (record { text = text; in_stack = false; index = number }) ≡ up_name_at text s → option_map_or (λ r. InRegister (as_byte r)) register (Upvalue number) ≡ local_place s
local_by text (Some r) number s e = ap (λ (u : UpName). local_place (record { in_stack = u.in_stack; index = u.index })) e
local_by text None number s e = ap (λ (u : UpName). local_place (record { in_stack = u.in_stack; index = u.index })) e

global_by : (text : List ℕ) (register : Option ℕ) (number : ℕ) (s : Source) → option_map_or (λ r. up_name_at text (declared_at r)) register (record { text = text; in_stack = false; index = number }) ≡ up_name_at text s → option_map_or (λ r. GlobalIn (as_byte r)) register (GlobalOf number) ≡ global_place_at s
global_by text (Some r) number s e = ap (λ (u : UpName). global_place_at (record { in_stack = u.in_stack; index = u.index })) e
global_by text None number s e = ap (λ (u : UpName). global_place_at (record { in_stack = u.in_stack; index = u.index })) e

pub variable_at : (text : List ℕ) (frames : List Frame) (s : Source) → is_variable text frames ≡ true → up_name frames text ≡ up_name_at text s → place_of text frames ≡ local_place s
variable_at text [] s known e =
    ap (λ b. if b then InRegister 0 else GlobalIn 0) known ∙ ap (λ (u : UpName). local_place (record { in_stack = u.in_stack; index = u.index })) e
variable_at text (frame ∷ frames) s known e =
    ap (λ b. if b then variable_place text frame else global_place frame) known ∙ local_by text (register_of text frame.variables) (upvalue_number text frame) s e

pub global_at : (text : List ℕ) (frames : List Frame) (s : Source) → is_variable text frames ≡ false → up_name frames environment ≡ up_name_at environment s → place_of text frames ≡ global_place_at s
global_at text [] s known e =
    ap (λ b. if b then InRegister 0 else GlobalIn 0) known ∙ ap (λ (u : UpName). global_place_at (record { in_stack = u.in_stack; index = u.index })) e
global_at text (frame ∷ frames) s known e =
    ap (λ b. if b then variable_place text frame else global_place frame) known ∙ global_by environment (register_of environment frame.variables) (upvalue_number environment frame) s e

still : (text t : List ℕ) (xs ys : List Frame) → reverse ys ≡ reached (reverse xs) t → is_variable text (reverse ys) ≡ is_variable text (reverse xs)
still text t xs ys e = ap (is_variable text) e ∙ ap (λ b. bytes_eq text environment || b) (same_locals text t (reverse xs))

-- where all functions around are counted, those that were reached are so of all
all_reached : (text : List ℕ) (count : ℕ) (xs ys : List Frame) → take count ys ≡ ys → take count xs ≡ xs → reverse (take count ys) ≡ reached (reverse (take count xs)) text → reverse ys ≡ reached (reverse xs) text
all_reached text count xs ys all_ys all_xs r = ap reverse (sym all_ys) ∙ r ∙ ap (λ zs. reached (reverse zs) text) all_xs

pub variable_placed : (text : List ℕ) (count : ℕ) (xs ys : List Frame) (s : Source) → count ≡ length xs → length ys ≡ length xs → reverse (take count ys) ≡ reached (reverse (take count xs)) text
    → is_variable text (reverse xs) ≡ true → up_name (reverse (take count ys)) text ≡ up_name_at text s → place_of text (reverse ys) ≡ local_place s
variable_placed text count xs ys s c l r known e =
    let all : take count ys ≡ ys = take_all count ys (omega (arith, c, l)) in let r' = all_reached text count xs ys all (take_all count xs (omega (arith, c))) r in
    variable_at text (reverse ys) s (still text text xs ys r' ∙ known) (ap (λ zs. up_name (reverse zs) text) (sym all) ∙ e)

pub global_placed : (text : List ℕ) (count : ℕ) (xs ys : List Frame) (s : Source) → count ≡ length xs → length ys ≡ length xs → reverse (take count ys) ≡ reached (reverse (take count xs)) environment
    → is_variable text (reverse xs) ≡ false → up_name (reverse (take count ys)) environment ≡ up_name_at environment s → place_of text (reverse ys) ≡ global_place_at s
global_placed text count xs ys s c l r known e =
    let all : take count ys ≡ ys = take_all count ys (omega (arith, c, l)) in let r' = all_reached environment count xs ys all (take_all count xs (omega (arith, c))) r in
    global_at text (reverse ys) s (still text environment xs ys r' ∙ known) (ap (λ zs. up_name (reverse zs) environment) (sym all) ∙ e)
