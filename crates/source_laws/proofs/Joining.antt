-- A tree whose lines are few and whose texts fit is one whose writing fits.
use Rattle.std.proofs.Common.{ℕ, ◌<◌, ◌≤◌, ◌^◌, List, [], ◌∷◌, arith, lt-ltb}
use Rattle.tree_core.specs.declared.name.Declared.{Declared}
use Rattle.tree_core.specs.Tree.{Block, Falls, Returns, Body, BodyOf, Stats, EndStats, MoreStats, Stat, Empty, Local, LocalFunction, Assign, CallStat, Do, While, Repeat, If, IfElse, NumFor, NumForStep, GenFor, Label, Goto, Break, Arms, EndArms, MoreArms, Exp, Nil, True, False, Int, Str, Vararg, Function, Var, Index, Call, Method, Unary, Binary, And, Or, Paren, Table, Exps, EndExps, MoreExps, Fields, EndFields, MoreFields, Item, Keyed}
use Rattle.tree_terms.specs.Asked.{ExpMeets, ExpsMeet, FieldsMeet, StatMeets, ArmsMeet, StatsMeet}
use Rattle.grammar_laws.specs.Lines.{DeclaredAreWithin, ExpIsWithin, ExpsAreWithin, FieldsAreWithin, StatIsWithin, ArmsAreWithin, StatsAreWithin, BlockIsWithin, BodyIsWithin}
use Rattle.code_checked.specs.Written.{LineFits, DeclaredFit, ExpIsWritten, ExpsAreWritten, FieldsAreWritten, StatIsWritten, ArmsAreWritten, StatsAreWritten, BlockIsWritten, BodyIsWritten}
use Rattle.source_laws.proofs.Texts.{DeclaredTextsFit, BlockTextsFit, BodyTextsFit, all_texts}

module _ (most : ℕ) (small : most < 2 ^ 31) where
  line_fits : (line : ℕ) → line ≤ most → LineFits line
  line_fits line le = lt-ltb line (2 ^ 31) (omega (arith, le, small))

  declared_written : (names : List Declared) → DeclaredAreWithin most names → DeclaredTextsFit names → DeclaredFit names
  declared_written [] h w = tt
  declared_written (d ∷ names) h w = (w.0, (line_fits d.name.line h.0.0, declared_written names h.1 w.1))

  mutual
    exp_written : (x : Exp) → ExpIsWithin most x → ExpMeets all_texts x → ExpIsWritten x
    exp_written (Nil line) h w = line_fits line h
    exp_written (True line) h w = line_fits line h
    exp_written (False line) h w = line_fits line h
    exp_written (Int line z) h w = (line_fits line h, w)
    exp_written (Str line bytes) h w = (line_fits line h, w)
    exp_written (Vararg line) h w = line_fits line h
    exp_written (Function line body) h w = (line_fits line h.0, body_written body h.1 w)
    exp_written (Var line name) h w = (line_fits line h.0, w)
    exp_written (Index line object key) h w = (line_fits line h.0, (exp_written object h.1 w.0, exp_written key h.2 w.1))
    exp_written (Call line f es) h w = (line_fits line h.0, (exp_written f h.1 w.0, exps_written es h.2 w.1))
    exp_written (Method line object name es) h w = (line_fits line h.0, (exp_written object h.1 w.0, (w.1.0, exps_written es h.3 w.1.1)))
    exp_written (Unary line op e) h w = (line_fits line h.0, exp_written e h.1 w)
    exp_written (Binary line op e d) h w = (line_fits line h.0, (exp_written e h.1 w.0, exp_written d h.2 w.1))
    exp_written (And line e d) h w = (line_fits line h.0, (exp_written e h.1 w.0, exp_written d h.2 w.1))
    exp_written (Or line e d) h w = (line_fits line h.0, (exp_written e h.1 w.0, exp_written d h.2 w.1))
    exp_written (Paren line e) h w = (line_fits line h.0, exp_written e h.1 w)
    exp_written (Table line fs) h w = (line_fits line h.0, fields_written fs h.1 w)

    exps_written : (x : Exps) → ExpsAreWithin most x → ExpsMeet all_texts x → ExpsAreWritten x
    exps_written EndExps h w = tt
    exps_written (MoreExps e es) h w = (exp_written e h.0 w.0, exps_written es h.1 w.1)

    fields_written : (x : Fields) → FieldsAreWithin most x → FieldsMeet all_texts x → FieldsAreWritten x
    fields_written EndFields h w = tt
    fields_written (MoreFields (Item e) fs) h w = (exp_written e h.0 w.0, fields_written fs h.1 w.1)
    fields_written (MoreFields (Keyed line e d) fs) h w = (line_fits line h.0.0, (exp_written e h.0.1 w.0.0, (exp_written d h.0.2 w.0.1, fields_written fs h.1 w.1)))

    stat_written : (x : Stat) → StatIsWithin most x → StatMeets all_texts x → StatIsWritten x
    stat_written (Empty line) h w = line_fits line h
    stat_written (Local line names es) h w = (line_fits line h.0, (declared_written names h.1 w.0, exps_written es h.2 w.1))
    stat_written (LocalFunction line name body) h w = (line_fits line h.0, (w.0, body_written body h.2 w.1))
    stat_written (Assign line targets es) h w = (line_fits line h.0, (exps_written targets h.1 w.0, exps_written es h.2 w.1))
    stat_written (CallStat line e) h w = (line_fits line h.0, exp_written e h.1 w)
    stat_written (Do line block) h w = (line_fits line h.0, block_written block h.1 w)
    stat_written (While line e block) h w = (line_fits line h.0, (exp_written e h.1 w.0, block_written block h.2 w.1))
    stat_written (Repeat line block e) h w = (line_fits line h.0, (block_written block h.1 w.0, exp_written e h.2 w.1))
    stat_written (If line arms) h w = (line_fits line h.0, arms_written arms h.1 w)
    stat_written (IfElse line arms block) h w = (line_fits line h.0, (arms_written arms h.1 w.0, block_written block h.2 w.1))
    stat_written (NumFor line name from limit block) h w = (line_fits line h.0, (w.0, (exp_written from h.2 w.1.0, (exp_written limit h.3 w.1.1.0, block_written block h.4 w.1.1.1))))
    stat_written (NumForStep line name from limit step block) h w = (line_fits line h.0, (w.0, (exp_written from h.2 w.1.0, (exp_written limit h.3 w.1.1.0, (exp_written step h.4 w.1.1.1.0, block_written block h.5 w.1.1.1.1)))))
    stat_written (GenFor line names es block) h w = (line_fits line h.0, (w.0, (exps_written es h.2 w.1.0, block_written block h.3 w.1.1)))
    stat_written (Label line name) h w = line_fits line h.0
    stat_written (Goto line name) h w = line_fits line h.0
    stat_written (Break line) h w = line_fits line h

    arms_written : (x : Arms) → ArmsAreWithin most x → ArmsMeet all_texts x → ArmsAreWritten x
    arms_written EndArms h w = tt
    arms_written (MoreArms e block arms) h w = (exp_written e h.0 w.0, (block_written block h.1 w.1.0, arms_written arms h.2 w.1.1))

    stats_written : (x : Stats) → StatsAreWithin most x → StatsMeet all_texts x → StatsAreWritten x
    stats_written EndStats h w = tt
    stats_written (MoreStats s ss) h w = (stat_written s h.0 w.0, stats_written ss h.1 w.1)

    block_written : (x : Block) → BlockIsWithin most x → BlockTextsFit x → BlockIsWritten x
    block_written (Falls ss tokens line) h w = (line_fits line h.0, stats_written ss h.1 w)
    block_written (Returns ss es tokens line) h w = (line_fits line h.0, (stats_written ss h.1 w.0, exps_written es h.2 w.1))

    pub body_written : (x : Body) → BodyIsWithin most x → BodyTextsFit x → BodyIsWritten x
    body_written (BodyOf params vararg inner ups line) h w = (line_fits line h.0, (w.0, (w.1.0, block_written inner h.2 w.1.1)))
