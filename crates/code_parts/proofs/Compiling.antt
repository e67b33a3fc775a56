-- What a piece of tree makes is the prototypes of its bodies in front of what follows.
use Rattle.std.proofs.Common.{arith, ◌≡◌, ℕ, zero, suc, ◌+◌, ◌<◌, List, [], ◌∷◌, ◌++◌, length, map, Option, refl, sym, ap, subst, ◌∙◌}
use Rattle.std.specs.Prelude.{slice_index_or}
use Rattle.tree_core.specs.Tree.{Block, Falls, Returns, Body, Stats, EndStats, MoreStats, Stat, Local, Assign, CallStat, Do, While, Repeat, If, IfElse, NumFor, NumForStep, GenFor, Arms, EndArms, MoreArms, Exp, Index, Call, Method, Unary, Binary, And, Or, Paren, Table, Exps, EndExps, MoreExps, Fields, EndFields, MoreFields, Field, Item, Keyed}
use Rattle.code_core.specs.Prototype.{Prototypes, none, more, prototypes, count}
use Rattle.code_of.specs.CodeOf.{parts_of, from_exp, from_exps, from_fields, from_field, from_stat, from_arms, from_stats, from_block, from_body, code_of}
use Rattle.code_parts.specs.Bodies.{exp_bodies, exps_bodies, fields_bodies, field_bodies, stat_bodies, arms_bodies, stats_bodies, block_bodies, compiled}

module _ (source : Option (List ℕ)) where
  compiled-append : (xs ys : List Body) (rest : Prototypes) → compiled source (xs ++ ys) rest ≡ compiled source xs (compiled source ys rest)
  compiled-append [] ys rest = refl
  compiled-append (x ∷ xs) ys rest = ap (more (parts_of source x) (from_body source x)) (compiled-append xs ys rest)

  two : (xs ys : List Body) (rest : Prototypes) {behind all : Prototypes} → behind ≡ compiled source ys rest → all ≡ compiled source xs behind → all ≡ compiled source (xs ++ ys) rest
  two xs ys rest second first = first ∙ ap (compiled source xs) second ∙ sym (compiled-append xs ys rest)

  mutual
    pub exp_compiled : (e : Exp) (rest : Prototypes) → from_exp source e rest ≡ compiled source (exp_bodies e) rest
    exp_compiled (Index line object key) rest = two (exp_bodies object) (exp_bodies key) rest (exp_compiled key rest) (exp_compiled object _)
    exp_compiled (Call line f es) rest = two (exp_bodies f) (exps_bodies es) rest (exps_compiled es rest) (exp_compiled f _)
    exp_compiled (Method line object name es) rest = two (exp_bodies object) (exps_bodies es) rest (exps_compiled es rest) (exp_compiled object _)
    exp_compiled (Unary line op e) rest = exp_compiled e rest
    exp_compiled (Binary line op e d) rest = two (exp_bodies e) (exp_bodies d) rest (exp_compiled d rest) (exp_compiled e _)
    exp_compiled (And line e d) rest = two (exp_bodies e) (exp_bodies d) rest (exp_compiled d rest) (exp_compiled e _)
    exp_compiled (Or line e d) rest = two (exp_bodies e) (exp_bodies d) rest (exp_compiled d rest) (exp_compiled e _)
    exp_compiled (Paren line e) rest = exp_compiled e rest
    exp_compiled (Table line fs) rest = fields_compiled fs rest
    exp_compiled _ rest = refl

    pub exps_compiled : (es : Exps) (rest : Prototypes) → from_exps source es rest ≡ compiled source (exps_bodies es) rest
    exps_compiled EndExps rest = refl
    exps_compiled (MoreExps e es) rest = two (exp_bodies e) (exps_bodies es) rest (exps_compiled es rest) (exp_compiled e _)

    fields_compiled : (fs : Fields) (rest : Prototypes) → from_fields source fs rest ≡ compiled source (fields_bodies fs) rest
    fields_compiled EndFields rest = refl
    fields_compiled (MoreFields f fs) rest = two (field_bodies f) (fields_bodies fs) rest (fields_compiled fs rest) (field_compiled f _)

    field_compiled : (f : Field) (rest : Prototypes) → from_field source f rest ≡ compiled source (field_bodies f) rest
    field_compiled (Item e) rest = exp_compiled e rest
    field_compiled (Keyed line e d) rest = two (exp_bodies e) (exp_bodies d) rest (exp_compiled d rest) (exp_compiled e _)

  mutual
    pub stat_compiled : (s : Stat) (rest : Prototypes) → from_stat source s rest ≡ compiled source (stat_bodies s) rest
    stat_compiled (Local line names es) rest = exps_compiled es rest
    stat_compiled (Assign line targets es) rest = two (exps_bodies targets) (exps_bodies es) rest (exps_compiled es rest) (exps_compiled targets _)
    stat_compiled (CallStat line e) rest = exp_compiled e rest
    stat_compiled (Do line block) rest = block_compiled block rest
    stat_compiled (While line e block) rest = two (exp_bodies e) (block_bodies block) rest (block_compiled block rest) (exp_compiled e _)
    stat_compiled (Repeat line block e) rest = two (block_bodies block) (exp_bodies e) rest (exp_compiled e rest) (block_compiled block _)
    stat_compiled (If line arms) rest = arms_compiled arms rest
    stat_compiled (IfElse line arms block) rest = two (arms_bodies arms) (block_bodies block) rest (block_compiled block rest) (arms_compiled arms _)
    stat_compiled (NumFor line name from limit block) rest =
        two (exp_bodies from ++ exp_bodies limit) (block_bodies block) rest (block_compiled block rest)
        (two (exp_bodies from) (exp_bodies limit) _ (exp_compiled limit _) (exp_compiled from _))
    stat_compiled (NumForStep line name from limit step block) rest =
        two (exp_bodies from ++ exp_bodies limit ++ exp_bodies step) (block_bodies block) rest (block_compiled block rest)
        (two (exp_bodies from ++ exp_bodies limit) (exp_bodies step) _ (exp_compiled step _)
        (two (exp_bodies from) (exp_bodies limit) _ (exp_compiled limit _) (exp_compiled from _)))
    stat_compiled (GenFor line names es block) rest = two (exps_bodies es) (block_bodies block) rest (block_compiled block rest) (exps_compiled es _)
    stat_compiled _ rest = refl

    arms_compiled : (as' : Arms) (rest : Prototypes) → from_arms source as' rest ≡ compiled source (arms_bodies as') rest
    arms_compiled EndArms rest = refl
    arms_compiled (MoreArms e block arms) rest =
        two (exp_bodies e ++ block_bodies block) (arms_bodies arms) rest (arms_compiled arms rest)
        (two (exp_bodies e) (block_bodies block) _ (block_compiled block _) (exp_compiled e _))

    stats_compiled : (ss : Stats) (rest : Prototypes) → from_stats source ss rest ≡ compiled source (stats_bodies ss) rest
    stats_compiled EndStats rest = refl
    stats_compiled (MoreStats s ss) rest = two (stat_bodies s) (stats_bodies ss) rest (stats_compiled ss rest) (stat_compiled s _)

    pub block_compiled : (block : Block) (rest : Prototypes) → from_block source block rest ≡ compiled source (block_bodies block) rest
    block_compiled (Falls ss tokens line) rest = stats_compiled ss rest
    block_compiled (Returns ss es tokens line) rest = two (stats_bodies ss) (exps_bodies es) rest (exps_compiled es rest) (stats_compiled ss _)

  -- the prototypes of bodies are a list

  compiled_list : (bodies : List Body) → compiled source bodies none ≡ prototypes (map (code_of source) bodies)
  compiled_list [] = refl
  compiled_list (body ∷ bodies) = ap (more (parts_of source body) (from_body source body)) (compiled_list bodies)

  pub inner_compiled : (inner : Block) → from_block source inner none ≡ prototypes (map (code_of source) (block_bodies inner))
  inner_compiled inner = block_compiled inner none ∙ compiled_list (block_bodies inner)

  -- a function in another has fewer functions in it

  fewer : (bodies : List Body) (n : ℕ) (body : Body) → n < length bodies → body ≡ slice_index_or bodies n body → count (from_body source body) < count (compiled source bodies none)
  fewer [] n body h is = absurd (omega (arith, h))
  fewer (x ∷ xs) zero body h is = subst (λ b. count (from_body source b) < 1 + count (from_body source x) + count (compiled source xs none)) (sym is) (omega arith)
  fewer (x ∷ xs) (suc n) body h is = let smaller = fewer xs n body (omega (arith, h)) is in omega (arith, smaller)

  pub inner_fewer : (inner : Block) (n : ℕ) (body : Body) → n < length (block_bodies inner) → body ≡ slice_index_or (block_bodies inner) n body → count (from_body source body) < count (from_block source inner none)
  inner_fewer inner n body h is = subst (λ p. count (from_body source body) < count p) (sym (block_compiled inner none)) (fewer (block_bodies inner) n body h is)
