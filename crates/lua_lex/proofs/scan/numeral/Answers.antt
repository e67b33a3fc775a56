use Rattle.std.proofs.Common.{◌≡◌, subst, sym, take}
use Rattle.std.specs.Prelude.{Some, None}
use Rattle.int_core.specs.Numeral.{SpellsInteger}
use Rattle.lua_lex.proofs.scan.numeral.Goals as goal

-- a run that spells no integer is no token
pub returns-in_err-value-clause-none : goal.returns-in_err-value-clause-none
returns-in_err-value-clause-none c = rw c.from_residual.ensures (λ token rest t.
    let spelled : SpellsInteger (take c.run_len-len.result c.args.text.now) t.0 = subst (λ n. SpellsInteger (take n c.args.text.now) t.0) (sym c.run_len-len.ensures.run) t.1 in
    let bad : None ≡ Some t.0 = c.in_err-value.ensures.only t.0 spelled in
    cc)
