-- Values that are written as such: their code is the same wherever it stands.
use Rattle.std.proofs.Common.{◌≡◌, ℕ, true, List, [], cond, sym, ◌∙◌}
use Rattle.tree_core.specs.Tree.{Exp, Nil, True, False, Int, Str}
use Rattle.code_of.specs.Coded.{Coded}
use Rattle.code_of.specs.Expressions.{made_by, exp_code}
use Rattle.code_of.specs.Operands.{is_literal}
use Rattle.code_of.specs.Parts.{direct_code}
use Rattle.code_emitter.specs.Listing.{Listing, listed, followed}
use Rattle.code_emitter.specs.Operands.{made_directly}
use Rattle.code_emitter.proofs.Joining.{none_made}

-- with no function in it, code for a register and code that goes straight to it
either_way : (s q : Listing) (a : List Coded) → q ≡ listed s a → (q ≡ followed s a 0) × (q ≡ followed s a 0)
either_way s q a h = (h ∙ sym (none_made s a), h ∙ sym (none_made s a))

literal_written : (s q : Listing) (e : Exp) (r t c : ℕ) → is_literal e ≡ true → q ≡ listed s (cond (is_literal e) (direct_code s.constants e r r s.made) [])
    → (q ≡ followed s (exp_code s.constants e r s.made c) (made_by e)) × (q ≡ followed s (direct_code s.constants e r t s.made) (made_directly e))
literal_written s q (Nil line) r t c is h = either_way s q (direct_code s.constants (Nil line) r r s.made) h
literal_written s q (True line) r t c is h = either_way s q (direct_code s.constants (True line) r r s.made) h
literal_written s q (False line) r t c is h = either_way s q (direct_code s.constants (False line) r r s.made) h
literal_written s q (Int line z) r t c is h = either_way s q (direct_code s.constants (Int line z) r r s.made) h
literal_written s q (Str line bytes) r t c is h = either_way s q (direct_code s.constants (Str line bytes) r r s.made) h
literal_written s q _ r t c is h = absurd (cc)

pub literal_value : (s q : Listing) (e : Exp) (r c : ℕ) → is_literal e ≡ true → q ≡ listed s (cond (is_literal e) (direct_code s.constants e r r s.made) []) → q ≡ followed s (exp_code s.constants e r s.made c) (made_by e)
literal_value s q e r c is h = (literal_written s q e r r c is h).0

pub literal_direct : (s q : Listing) (e : Exp) (r t : ℕ) → is_literal e ≡ true → q ≡ listed s (cond (is_literal e) (direct_code s.constants e r r s.made) []) → q ≡ followed s (direct_code s.constants e r t s.made) (made_directly e)
literal_direct s q e r t is h = (literal_written s q e r t 2 is h).1
