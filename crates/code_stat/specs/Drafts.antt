-- Code that is written while some of its jumps are not led yet: where each leads is settled when the label or the end of the loop is reached.
use Rattle.std.specs.Prelude.{ℕ, ◌+◌, cond, Bool, true, false, List, [], ◌∷◌, ◌++◌, ◌≡◌, length, slice_set, bytes_eq, Option, Some, None}
use Rattle.code_core.specs.declared.opcode.Opcode.TheVariants.{Close}
use Rattle.code_of.specs.Coded.{Coded, with_abc, jump_over}
use Rattle.tree_core.specs.Tree.{Stat, Stats, Block}
use Rattle.code_of.specs.Levels.{made_by_stat, made_in_stats, made_in_block}
use Rattle.code_of.specs.Statements.{stat_code, stats_code, block_code, open_code}
use Rattle.code_of.specs.Jumps.{Landing, Visible, Reach, label_in}
use Rattle.code_emitter.specs.declared.emitter.Step.{Step}
use Rattle.code_emitter.specs.Listing.{followed, step, steps}
use Rattle.code_emitter.specs.Patches.{jump_to}
use Rattle.code_stat.specs.declared.jumps.Destination.{Destination}
use Rattle.code_stat.specs.declared.jumps.Jump.{Jump}
use Rattle.code_stat.specs.declared.jumps.Passed.{Passed}
use Rattle.code_stat.specs.declared.writer.Writer.{Writer}

abbrev pub landing : Destination → Landing
landing x = record { place = x.place; level = x.level }

abbrev pub landing_if : Option Destination → Option Landing
landing_if None = None
landing_if (Some x) = Some (landing x)

-- the labels that were passed, the last one first
abbrev pub newest_first : List Passed → List Visible → List Visible
newest_first [] behind = behind
newest_first (x ∷ xs) behind = newest_first xs (record { name = x.name; landing = landing x.landing } ∷ behind)

abbrev pub first_of : Option Landing → Option Landing → Option Landing
first_of None y = y
first_of (Some x) y = Some x

-- a `break` has no label
abbrev pub among : Option (List ℕ) → List Visible → Option Landing
among None labels = None
among (Some name) labels = label_in name labels

abbrev pub beyond : Option (List ℕ) → Reach → Option Landing
beyond None reach = reach.exit
beyond (Some name) reach = label_in name reach.labels

-- whether a label that comes is the one that is looked for
abbrev pub is_to : Option (List ℕ) → List ℕ → Bool
is_to None name = false
is_to (Some label) name = bytes_eq name label

-- a `break` that is not led yet
abbrev pub is_break : Option (List ℕ) → Option Destination → Bool
is_break None None = true
is_break _ _ = false

-- where a jump leads: to a label that is still to come in its block, to one that was passed there, or out of the block. A settled jump has its landing
abbrev pub leads_to : (ahead : List Visible) → Reach → Jump → Option Landing
leads_to ahead reach j = cond j.settled (landing_if j.landing) (first_of (among j.label ahead) (first_of (landing_if j.landing) (beyond j.label reach)))

-- the same at the end of the block
abbrev pub arrives : Reach → Jump → Option Landing
arrives reach j = cond j.settled (landing_if j.landing) (first_of (landing_if j.landing) (beyond j.label reach))

-- a block's reach: the labels that are to come in it, those that were passed, and what is reached outside of it
abbrev pub within : (ahead passed : List Visible) → Reach → Reach
within ahead passed reach = record { labels = ahead ++ (passed ++ reach.labels); exit = reach.exit }

abbrev pub or_nowhere : Option Landing → Landing
or_nowhere None = record { place = 0; level = 0 }
or_nowhere (Some x) = x

-- a jump before it is led
abbrev pub drafted : (closes : Bool) → (line : ℕ) → List Coded
drafted true line = with_abc Close 0 0 0 line ∷ jump_over 0 line ∷ []
drafted false line = jump_over 0 line ∷ []

-- the instructions of each jump are put in their place: CLOSE, where it has one, and JMP
abbrev pub put_jump : (closes : Bool) → Landing → (pc line : ℕ) → List Step → List Step
put_jump false x pc line xs = slice_set xs pc (step (jump_to pc x.place line))
put_jump true x pc line xs = slice_set (slice_set xs pc (step (with_abc Close x.level 0 0 line))) (pc + 1) (step (jump_to (pc + 1) x.place line))

abbrev pub fill : (Jump → Option Landing) → List Jump → List Step → List Step
fill to [] xs = xs
fill to (j ∷ js) xs = put_jump j.closes (or_nowhere (to j)) j.place j.line (fill to js xs)

-- code stands behind that makes so many functions. It is a draft, which becomes the code under any reach as its jumps are filled in
pub record Wrote (a b : Writer) (made : ℕ) (code : Reach → List Coded) : Type 0 where
  pub draft : List Coded
  pub jumps : List Jump
  pub emitter_is : b.emitter ≡ followed a.emitter draft made
  pub jumps_are : b.jumps.items ≡ a.jumps.items ++ jumps
  pub back_is : b.back ≡ a.back
  pub fills : (reach : Reach) (front more : List Step) → length front ≡ length a.emitter.steps → fill (arrives reach) jumps (front ++ (steps draft ++ more)) ≡ front ++ (steps (code reach) ++ more)

-- statements of a block are written, of which others are to come: with their code behind it, the draft becomes all of it
pub record Underway (a b : Writer) (ahead : List Visible) (made rest_made : ℕ) (rest all : Reach → List Coded) : Type 0 where
  pub draft : List Coded
  pub jumps : List Jump
  pub done : ℕ
  pub done_is : done + rest_made ≡ made
  pub emitter_is : b.emitter ≡ followed a.emitter draft done
  pub jumps_are : b.jumps.items ≡ a.jumps.items ++ jumps
  pub back_is : b.back ≡ a.back
  pub fills : (reach : Reach) (front more : List Step) → length front ≡ length a.emitter.steps → fill (leads_to ahead reach) jumps (front ++ (steps draft ++ (steps (rest reach) ++ more))) ≡ front ++ (steps (all reach) ++ more)

-- the code of a piece of tree stands behind, where the locals and what is written so far are known
abbrev pub WroteStat : Writer → Writer → Stat → (closing : Bool) → (level : ℕ) → Type 0
WroteStat a b s closing level = Wrote a b (made_by_stat s) (λ reach. stat_code a.emitter.constants a.back s closing level a.emitter.made (length a.emitter.steps) reach)

abbrev pub WroteStats : Writer → Writer → Stats → (falls closing : Bool) → (outer level : ℕ) → Type 0
WroteStats a b ss falls closing outer level = Wrote a b (made_in_stats ss) (λ reach. stats_code a.emitter.constants a.back ss falls closing outer level a.emitter.made (length a.emitter.steps) [] reach)

abbrev pub WroteBlock : Writer → Writer → Block → (closing : Bool) → (outer level : ℕ) → Type 0
WroteBlock a b block closing outer level = Wrote a b (made_in_block block) (λ reach. block_code a.emitter.constants a.back block closing outer level a.emitter.made (length a.emitter.steps) reach)

abbrev pub WroteOpen : Writer → Writer → Block → (closing : Bool) → (level : ℕ) → Type 0
WroteOpen a b block closing level = Wrote a b (made_in_block block) (λ reach. open_code a.emitter.constants a.back block closing level a.emitter.made (length a.emitter.steps) reach)
