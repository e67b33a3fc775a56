-- The steps of the parser through a production.
use Rattle.std.proofs.Common.{◌≡◌, ℕ, ◌-◌, ◌<◌, ◌≤◌, List, [], ◌∷◌, ◌++◌, drop, length, Option, Result, Ok, Err, refl, sym, ap, ap₂, subst, ◌∙◌, arith, true, false, Bool}
use Rattle.std.specs.Prelude.{nat_lt, map, if◌then◌else◌, ◌||◌}
use Rattle.std.proofs.lemmas.Bool.Decides.{nat_tests}
use Rattle.std.proofs.lemmas.List.{map-append}
use Rattle.lua_parse.specs.declared.fault.Fault.{Fault}
use Rattle.lua_parse.specs.declared.fault.Fault.TheVariants.{Refused, Memory}
use Rattle.lua_lex.specs.declared.token.Token.{Token}
use Rattle.std.specs.Option.{option_map}
use Rattle.std.specs.declared.boxed.Box.{Box}
use Rattle.std.specs.declared.alloc.Global.{Global}
use Rattle.tree_core.specs.Tree as tree
use Rattle.tree_core.specs.declared.tree.Exp.{Exp}
use Rattle.tree_core.specs.declared.operator.UnOp.{UnOp}
use Rattle.tree_making.specs.Made.{plain_boxed}
use Rattle.tree_making.specs.declared.operator.Infix.{Infix}
use Rattle.token_cursor.specs.declared.level.Level.{Level}
use Rattle.token_cursor.specs.declared.word.Word.{Word}
use Rattle.token_cursor.specs.declared.start.Start.{Start}
use Rattle.token_cursor.specs.Words.{Lexeme, is_word, start_of, unary_of, operator_of, first}
use Rattle.lua_parse.specs.Moves.{Piece, Part, Move, pick, pass, refuse, within, gives, stat, unary, behind}
use Rattle.lua_parse.specs.Grammar.{expects, only, stat_move, unary_move, operator_move}
use Rattle.lua_parse.specs.Words.{constant_of}
use Rattle.lua_parse.specs.Reading.{Outcome, whole, cut, stuck, Reads, picks, passes, refuses, is_whole, within_whole, within_cut, within_stuck}
use Rattle.lua_parse.specs.Answers.{Answers}

-- the list of tokens has a first one
abbrev pub Comes : List Lexeme → Type 0
Comes rest = rest ≡ first rest ∷ drop 1 rest

-- the reading has come to a place: what follows there is read as the whole is
pub record Leads (move : Move) (tokens : List Lexeme) (place : Move) (rest : List Lexeme) : Type 0 where
  pub leads : (outcome : Outcome) → Reads place rest outcome → Reads move tokens outcome

-- the beginning
pub starts : (part : Part) (room : ℕ) (tokens : List Lexeme) → Leads (expects room part) tokens (expects room part) tokens
starts part room tokens = record { leads = λ outcome h. h }

-- a loop has come to a place, and no token stands behind it again
pub record Follows (move : Move) (tokens : List Lexeme) (place : Move) (rest : List Lexeme) : Type 0 where
  pub leads : Leads move tokens place rest
  pub kept : length rest ≤ length tokens

-- the same of a loop with what it has read so far, which has this height
pub record Grows (move : Move) (tokens : List Lexeme) (place : Move) (rest : List Lexeme) (height most : ℕ) : Type 0 where
  pub leads : Leads move tokens place rest
  pub low : height ≤ most
  pub kept : length rest ≤ length tokens

-- the same where the loop begins behind a token
pub record GrowsOn (move : Move) (tokens : List Lexeme) (place : Move) (rest : List Lexeme) (height most : ℕ) : Type 0 where
  pub leads : Leads move tokens place rest
  pub low : height ≤ most
  pub taken : length rest < length tokens

-- the next token decides
pub picked : {move : Move} {tokens rest : List Lexeme} {by : Lexeme → Move} → Leads move tokens (pick by) rest → Comes rest → Leads move tokens (by (first rest)) rest
picked {rest = rest} {by = by} l comes = record { leads = λ outcome h. l.leads outcome (subst (λ ts. Reads (pick by) ts outcome) (sym comes) (picks (subst (λ ts. Reads (by (first rest)) ts outcome) comes h))) }

-- the next token is passed
pub passed : {move : Move} {tokens rest end : List Lexeme} {next : Move} → Leads move tokens (pass next) rest → Comes rest → end ≡ drop 1 rest → Leads move tokens next end
passed {rest = rest} {end = end} {next = next} l comes e = record { leads = λ outcome h. l.leads outcome (subst (λ ts. Reads (pass next) ts outcome) (sym comes) (passes (subst (λ ts. Reads next ts outcome) e h))) }

-- the place is this one
pub turned : {move : Move} {tokens rest : List Lexeme} {place other : Move} → Leads move tokens place rest → place ≡ other → Leads move tokens other rest
turned {move = move} {tokens = tokens} {rest = rest} l e = subst (λ m. Leads move tokens m rest) e l

-- a test of the next token
pub holds : {move : Move} {tokens rest : List Lexeme} {b : Bool} {here : Move} (other : Move) → Leads move tokens (if b then here else other) rest → b ≡ true → Leads move tokens here rest
holds {here = here} other l e = turned l (ap (λ v. if v then here else other) e)

pub fails : {move : Move} {tokens rest : List Lexeme} {b : Bool} {other : Move} (here : Move) → Leads move tokens (if b then here else other) rest → b ≡ false → Leads move tokens other rest
fails {other = other} here l e = turned l (ap (λ v. if v then here else other) e)

-- what the next token is decides
decided : {A : Type 0} {move : Move} {tokens rest : List Lexeme} {token : Token} {found given : A} (of : Token → A) (by : A → Move) → Leads move tokens (by (of (first rest).0)) rest → token ≡ (first rest).0 → found ≡ of token → found ≡ given → Leads move tokens (by given) rest
decided of by l is made e = turned l (ap by (ap of (sym is) ∙ sym made ∙ e))

-- a statement begins with a token of this kind
pub stat_begins : (room : ℕ) {tokens : List Lexeme} {token : Token} {found given : Start} → Comes tokens → token ≡ (first tokens).0 → found ≡ start_of token → found ≡ given → Leads (expects room stat) tokens (stat_move room (first tokens).1 given) tokens
stat_begins room {tokens = tokens} comes = decided start_of (stat_move room (first tokens).1) (picked (starts stat room tokens) comes)

-- an operand begins with this operator, or with none
pub unary_begins : (room : ℕ) {tokens : List Lexeme} {token : Token} {found given : Option UnOp} → Comes tokens → token ≡ (first tokens).0 → found ≡ unary_of token → found ≡ given → Leads (expects room unary) tokens (unary_move room (first tokens).1 given) tokens
unary_begins room {tokens = tokens} comes = decided unary_of (unary_move room (first tokens).1) (picked (starts unary room tokens) comes)

-- this operator stands behind an operand, or none does
pub operator_follows : {move : Move} {tokens rest : List Lexeme} {token : Token} {found given : Option Infix} (room : ℕ) (level : Level) (left : tree.Exp) (height : ℕ) → Leads move tokens (expects room (behind level left height)) rest → Comes rest → token ≡ (first rest).0 → found ≡ operator_of level token → found ≡ given → Leads move tokens (operator_move room level left height (first rest).1 given) rest
operator_follows {rest = rest} room level left height l comes = decided (operator_of level) (operator_move room level left height (first rest).1) (picked l comes)

-- the next token is this expression by itself, or none
pub constant_is : {token : Token} {line : ℕ} {node made : Option (Box Exp Global)} (t : Lexeme) → token ≡ t.0 → line ≡ t.1 → option_map plain_boxed node ≡ constant_of (token, line) → node ≡ made → constant_of t ≡ option_map plain_boxed made
constant_is t is at of e = ap₂ (λ a b. constant_of (a, b)) (sym is) (sym at) ∙ sym of ∙ ap (option_map plain_boxed) e

-- the rest is this list
pub stayed : {move : Move} {tokens rest end : List Lexeme} {place : Move} → Leads move tokens place rest → end ≡ rest → Leads move tokens place end
stayed {move = move} {tokens = tokens} {place = place} l e = subst (λ ts. Leads move tokens place ts) (sym e) l

-- a word was taken, or not
pub taken : {move : Move} {tokens rest end : List Lexeme} {here : Move} {b : Bool} (w : Word) (other : Move) → Leads move tokens (if is_word w (first rest).0 then pass here else other) rest → Comes rest → b ≡ is_word w (first rest).0 → end ≡ (if b then drop 1 rest else rest) → b ≡ true → Leads move tokens here end
taken {rest = rest} w other l comes is end e = passed (holds other l (sym is ∙ e)) comes (end ∙ ap (λ v. if v then drop 1 rest else rest) e)

pub not_taken : {move : Move} {tokens rest end : List Lexeme} {other : Move} {b : Bool} (w : Word) (here : Move) → Leads move tokens (if is_word w (first rest).0 then here else other) rest → Comes rest → b ≡ is_word w (first rest).0 → end ≡ (if b then drop 1 rest else rest) → b ≡ false → Leads move tokens other end
not_taken {rest = rest} w here l comes is end e = stayed (fails here l (sym is ∙ e)) (end ∙ ap (λ v. if v then drop 1 rest else rest) e)

-- the part stands behind what was made
pub placed : {B : Type 0} {move : Move} {tokens rest : List Lexeme} {height height' : ℕ} {x y : B} (room : ℕ) (part : B → ℕ → Part) → Leads move tokens (expects room (part x height)) rest → y ≡ x → height' ≡ height → Leads move tokens (expects room (part y height')) rest
placed {move = move} {tokens = tokens} {rest = rest} {height' = height'} {x = x} room part l e h =
    subst (λ z. Leads move tokens (expects room (part z height')) rest) (sym e) (subst (λ n. Leads move tokens (expects room (part x n)) rest) (sym h) l)

-- a list that grew by one item
pub mapped : {A B : Type 0} (f : A → B) (xs : List A) (x : A) (ys : List A) → ys ≡ xs ++ x ∷ [] → map f ys ≡ map f xs ++ f x ∷ []
mapped f xs x ys e = ap (map f) e ∙ map-append f xs (x ∷ [])

-- the next token can't stand there
pub refused : {move : Move} {tokens rest : List Lexeme} → Leads move tokens refuse rest → Comes rest → Reads move tokens (stuck rest)
refused {rest = rest} l comes = l.leads (stuck rest) (subst (λ ts. Reads refuse ts (stuck ts)) (sym comes) refuses)

-- a part was read
pub found : {move : Move} {tokens rest end : List Lexeme} {part : Part} {room : ℕ} {next : Piece → ℕ → ℕ → Move} {piece : Piece} {height : ℕ} → Leads move tokens (within part room next) rest → Reads (expects room part) rest (whole piece height end) → Leads move tokens (next piece height (length rest - length end)) end
found {end = end} {piece = piece} {height = height} l r = record { leads = λ outcome h. l.leads outcome (within_whole piece height end r h) }

-- a part wasn't read
pub failed : {A B : Type 0} {given : A → Piece × ℕ} {wanted : B → Piece × ℕ} {whole_part part : Part} {most room : ℕ} {tokens rest end : List Lexeme} {next : Piece → ℕ → ℕ → Move} → Leads (expects most whole_part) tokens (within part room next) rest → (fault : Fault) → Answers given part room rest (Err fault) end → Answers wanted whole_part most tokens (Err fault) end
failed {end = end} l Refused r = record { tells = l.leads (stuck end) (within_stuck r.tells) }
failed l Memory r = record { tells = tt }

pub failed_by : {A B : Type 0} {given : A → Piece × ℕ} {wanted : B → Piece × ℕ} {whole_part part : Part} {most room : ℕ} {tokens rest end : List Lexeme} {next : Piece → ℕ → ℕ → Move} {fault : Fault} {result : Result B Fault} → Leads (expects most whole_part) tokens (within part room next) rest → Answers given part room rest (Err fault) end → result ≡ Err fault → Answers wanted whole_part most tokens result end
failed_by {wanted = wanted} {whole_part = whole_part} {most = most} {tokens = tokens} {end = end} {fault = fault} l r e = subst (λ x. Answers wanted whole_part most tokens x end) (sym e) (failed l fault r)

-- nothing more is wanted
pub ended : {move : Move} {tokens rest : List Lexeme} {piece : Piece} {height : ℕ} → Leads move tokens (gives piece height) rest → Reads move tokens (whole piece height rest)
ended {rest = rest} {piece = piece} {height = height} l = l.leads (whole piece height rest) is_whole

pub ended_as : {move : Move} {tokens rest : List Lexeme} {piece piece' : Piece} {height height' : ℕ} → Leads move tokens (gives piece height) rest → piece' ≡ piece → height' ≡ height → Reads move tokens (whole piece' height' rest)
ended_as {move = move} {tokens = tokens} {rest = rest} {piece = piece} {height' = height'} l p h = subst (λ q. Reads move tokens (whole q height' rest)) (sym p) (subst (λ n. Reads move tokens (whole piece n rest)) (sym h) (ended l))

-- the rest is a part that goes on from here
pub into : {move : Move} {tokens rest : List Lexeme} {part : Part} {room : ℕ} → Leads move tokens (only part room) rest → Leads move tokens (expects room part) rest
into {rest = rest} {part = part} {room = room} l = record { leads = λ outcome h. l.leads outcome (whole_part outcome h) }
  where
    whole_part : (outcome : Outcome) → Reads (expects room part) rest outcome → Reads (only part room) rest outcome
    whole_part (whole piece height end) h = within_whole piece height end h is_whole
    whole_part cut h = within_cut h
    whole_part (stuck end) h = within_stuck h

-- it is answered by another function
pub answered : {A : Type 0} {given : A → Piece × ℕ} {whole_part part : Part} {most room : ℕ} {tokens rest end : List Lexeme} → Leads (expects most whole_part) tokens (expects room part) rest → (result : Result A Fault) → Answers given part room rest result end → Answers given whole_part most tokens result end
answered l (Ok made) h = record { tells = l.leads _ h.tells }
answered l (Err Refused) h = record { tells = l.leads _ h.tells }
answered l (Err Memory) h = record { tells = tt }

-- a level may be opened where there is room
pub has_room : (room height : ℕ) → height < room → nat_lt height room ≡ true
has_room room height h = grind (arith, nat_tests)

pub no_room : (room height : ℕ) → room ≤ height → nat_lt height room ≡ false
no_room room height h = grind (arith, nat_tests)

pub one_less : {tokens rest : List Lexeme} → Comes tokens → rest ≡ drop 1 tokens → length rest < length tokens
one_less {tokens = tokens} {rest = rest} comes e = omega (arith, ap length comes, ap length e)

-- one of two tests

pub neither_first : (a b : Bool) → (a || b) ≡ false → a ≡ false
neither_first true b e = e
neither_first false b e = refl

pub neither_second : (a b : Bool) → (a || b) ≡ false → b ≡ false
neither_second true b e = absurd cc
neither_second false b e = e

pub either_second : (a b : Bool) → (a || b) ≡ true → a ≡ false → b ≡ true
either_second true b e f = absurd cc
either_second false b e f = e
