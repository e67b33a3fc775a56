-- What a production does with the piece of a part: it goes on where the piece is of the kind that it asks for, and refuses every other one.
use Rattle.std.proofs.Common.{ℕ, List, Option}
use Rattle.tree_core.specs.Tree as tree
use Rattle.lua_parse.specs.Moves.{Piece, a_line, a_name, some_names, some_params, a_declared, some_declared, an_exp, maybe_exp, some_exps, a_field, some_fields, a_target, an_arm, some_arms, some_items, a_stat, a_block, maybe_block, a_body, Move, refuse}
use Rattle.lua_parse.specs.Grammar.{on_line, on_name, on_names, on_params, on_declared, on_all_declared, on_exp, on_step, on_exps, on_field, on_fields, on_target, on_arm, on_arms, on_items, on_stat, on_block, on_else, on_body}

-- what follows on a piece, where `next` follows on what the pieces of the kind hold
pub data Follows {X : Type 0} (kind : X → Piece) (next : X → Move) : Piece → Move → Type 0 where
  goes_on : (x : X) → Follows kind next (kind x) (next x)
  is_refused : {p : Piece} → Follows kind next p refuse

-- what holds of each move that goes on, and of refusing, holds of what follows
pub follows : {X : Type 0} {kind : X → Piece} {next : X → Move} {p : Piece} {move : Move} (Holds : Piece → Type 0) (Keeps : Move → Type 0)
    → Follows kind next p move → ((x : X) → Holds (kind x) → Keeps (next x)) → Keeps refuse → Holds p → Keeps move
follows Holds Keeps (goes_on x) kept none h = kept x h
follows Holds Keeps is_refused kept none h = none

-- the production's part `on` asks for pieces of this kind
abbrev pub Asks : {X : Type 0} → (X → Piece) → ((X → Move) → Piece → Move) → Type 0
Asks {X} kind on = (next : X → Move) (p : Piece) → Follows kind next p (on next p)

-- for pieces that hold two things
abbrev pub AsksTwo : {X Y : Type 0} → (X × Y → Piece) → ((X → Y → Move) → Piece → Move) → Type 0
AsksTwo {X} {Y} kind on = (next : X → Y → Move) (p : Piece) → Follows kind (λ x. next x.0 x.1) p (on next p)

pub by_line : Asks a_line on_line
by_line next (a_line line) = goes_on line
by_line next _ = is_refused

pub by_name : Asks a_name on_name
by_name next (a_name x) = goes_on x
by_name next _ = is_refused

pub by_names : Asks some_names on_names
by_names next (some_names xs) = goes_on xs
by_names next _ = is_refused

pub by_declared : Asks a_declared on_declared
by_declared next (a_declared d) = goes_on d
by_declared next _ = is_refused

pub by_all_declared : Asks some_declared on_all_declared
by_all_declared next (some_declared ds) = goes_on ds
by_all_declared next _ = is_refused

pub by_exp : Asks an_exp on_exp
by_exp next (an_exp e) = goes_on e
by_exp next _ = is_refused

pub by_step : Asks maybe_exp on_step
by_step next (maybe_exp e) = goes_on e
by_step next _ = is_refused

pub by_exps : Asks some_exps on_exps
by_exps next (some_exps es) = goes_on es
by_exps next _ = is_refused

pub by_field : Asks a_field on_field
by_field next (a_field f) = goes_on f
by_field next _ = is_refused

pub by_fields : Asks some_fields on_fields
by_fields next (some_fields fs) = goes_on fs
by_fields next _ = is_refused

pub by_arms : Asks some_arms on_arms
by_arms next (some_arms as') = goes_on as'
by_arms next _ = is_refused

pub by_stat : Asks a_stat on_stat
by_stat next (a_stat s) = goes_on s
by_stat next _ = is_refused

pub by_block : Asks a_block on_block
by_block next (a_block b) = goes_on b
by_block next _ = is_refused

pub by_else : Asks maybe_block on_else
by_else next (maybe_block b) = goes_on b
by_else next _ = is_refused

pub by_body : Asks a_body on_body
by_body next (a_body b) = goes_on b
by_body next _ = is_refused

pub by_params : AsksTwo (λ x. some_params x.0 x.1) on_params
by_params next (some_params xs vararg) = goes_on (xs, vararg)
by_params next _ = is_refused

pub by_target : AsksTwo (λ x. a_target x.0 x.1) on_target
by_target next (a_target e own) = goes_on (e, own)
by_target next _ = is_refused

pub by_arm : AsksTwo (λ x. an_arm x.0 x.1) on_arm
by_arm next (an_arm e b) = goes_on (e, b)
by_arm next _ = is_refused

pub by_items : (next : List tree.Stat → Option (List tree.Exp) → ℕ → Move) (p : Piece) → Follows {X = List tree.Stat × Option (List tree.Exp) × ℕ} (λ x. some_items x.0 x.1 x.2) (λ x. next x.0 x.1 x.2) p (on_items next p)
by_items next (some_items ss es line) = goes_on (ss, es, line)
by_items next _ = is_refused
