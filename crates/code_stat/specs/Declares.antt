-- The local variables of a piece of tree stand behind those that were declared in front of it.
use Rattle.std.specs.Prelude.{ℕ, ◌+◌, Bool, List, ◌++◌, ◌≡◌, length, map}
use Rattle.tree_core.specs.declared.name.Name.{Name}
use Rattle.tree_core.specs.Tree.{Stat, Stats, Block, Falls, Returns}
use Rattle.code_core.specs.declared.proto.Const.{Const}
use Rattle.code_core.specs.declared.proto.LocVar.{LocVar}
use Rattle.code_of.specs.declared.leaving.Leaving.{Leaving}
use Rattle.code_of.specs.Sizes.{block_size}
use Rattle.code_of.specs.Variables.{looped, within_stat, within_block, within_whole}
use Rattle.code_parts.specs.declared.variables.Variable.{Variable}
use Rattle.code_parts.specs.Scopes.{over, begun_by, begun_in}
use Rattle.code_stat.specs.declared.writer.Writer.{Writer}

module _ (constants : List Const) (back : Leaving) where
  -- the scopes of what a statement declares go on, and those within it have ended
  abbrev pub left_by : Stat → (closing : Bool) → (t j pc : ℕ) → List Variable
  left_by s closing t j pc = begun_by constants back s t j pc ++ map over (within_stat constants back s closing t j pc)

  -- at the test of a `repeat` the block's own scopes go on
  abbrev pub begun_open : Block → (closing : Bool) → (t j pc : ℕ) → List Variable
  begun_open (Falls ss tokens line) closing t j pc = begun_in constants back ss closing t j pc
  begun_open (Returns ss es tokens line) closing t j pc = begun_in constants back ss closing t j pc

  -- the rounds of a `for`, which end with so many instructions behind the block
  abbrev pub in_rounds : (hidden_ones : ℕ) → List Name → Block → (closing : Bool) → (outer t last j pc : ℕ) → List LocVar
  in_rounds n names block closing outer t last j pc =
      let size = block_size constants back block closing outer t j in
      looped constants back n names pc size (pc + (size + last)) ++ within_block constants back block closing outer t j (pc + 1)

-- of what is written, where so much is known in front of it

abbrev pub Declares : (a b : Writer) → (List Const → (back : Leaving) → (made place : ℕ) → List Variable) → Type 0
Declares a b f = b.variables ≡ a.variables ++ f a.emitter.constants a.back a.emitter.made (length a.emitter.steps)

abbrev pub DeclaresStat : Writer → Writer → Stat → (closing : Bool) → (level : ℕ) → Type 0
DeclaresStat a b s closing level = Declares a b (λ k back j pc. left_by k back s closing level j pc)

abbrev pub DeclaresStats : Writer → Writer → Stats → (closing : Bool) → (level : ℕ) → Type 0
DeclaresStats a b ss closing level = Declares a b (λ k back j pc. begun_in k back ss closing level j pc)

abbrev pub DeclaresBlock : Writer → Writer → Block → (closing : Bool) → (outer level : ℕ) → Type 0
DeclaresBlock a b block closing outer level = Declares a b (λ k back j pc. map over (within_block k back block closing outer level j pc))

abbrev pub DeclaresWhole : Writer → Writer → Block → (params : ℕ) → Type 0
DeclaresWhole a b block params = Declares a b (λ k back j pc. map over (within_whole k back block params j pc))

abbrev pub DeclaresOpen : Writer → Writer → Block → (closing : Bool) → (level : ℕ) → Type 0
DeclaresOpen a b block closing level = Declares a b (λ k back j pc. begun_open k back block closing level j pc)

abbrev pub DeclaresRounds : Writer → Writer → (hidden_ones : ℕ) → List Name → Block → (closing : Bool) → (outer level last : ℕ) → Type 0
DeclaresRounds a b n names block closing outer level last = Declares a b (λ k back j pc. map over (in_rounds k back n names block closing outer level last j pc))
