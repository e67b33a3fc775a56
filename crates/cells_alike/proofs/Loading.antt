-- A function of a loaded source, with a new cell on each side.
use Rattle.std.proofs.Common.{◌≡◌, ◌+◌, inl, inr, ⊎_elim, ℕ, ◌<◌, List, [], ◌∷◌, ◌++◌, length, refl, sym, ◌∙◌, ap, subst, arith, true, length-append}
use Rattle.std.proofs.lemmas.List.{length-map}
use Rattle.std.proofs.lemmas.Option.{slice_get_within}
use Rattle.std.specs.Prelude.{map}
use Rattle.int_core.specs.Value.{Value, object, a_function, nth}
use Rattle.tree_core.specs.Tree.{Body}
use Rattle.load_rows.specs.Loading.{Loaded, wrong, not_loaded, loaded}
use Rattle.lua_meaning.specs.World.{gives_back}
use Rattle.lua_meaning.specs.Step.{gives_loaded, after_loading}
use Rattle.list_laws.specs.Held.{Has}
use Rattle.list_laws.proofs.Values.{nth_old, last_nth}
use Rattle.meaning_cells.specs.Alike.{AreEven}
use Rattle.cells_alike.proofs.Joint.{Made, Store, Joint, function_one, function_two, one, two, cells_for, IsStore, ArePaired, head, Quiet, quiet, Both}
use Rattle.cells_alike.proofs.Moving.{more_map, get_more, now_both, raises_both}
use Rattle.cells_alike.proofs.Storing.{Passes, IsAny, get_before, layers_pass, base_pass_any}

-- a cell that no activation shares is new on both sides, with the same value
module _ (S : Store) (v : Value) (s : IsStore S) (even : AreEven (cells_for S [])) where
  abbrev grown : Store
  grown = record { pairs = (length S.cells, length S.cells_too) ∷ S.pairs; cells = S.cells ++ v ∷ []; cells_too = S.cells_too ++ v ∷ []; owners = S.owners ++ (0, 0) ∷ [] }

  size : length grown.cells ≡ length S.cells + 1
  size = length-append S.cells (v ∷ [])

  size_too : length grown.cells_too ≡ length S.cells_too + 1
  size_too = length-append S.cells_too (v ∷ [])

  grown_store : IsStore grown
  grown_store = record {
    are = record {
      one_way = λ c d e h k. ⊎_elim
          (λ x. ⊎_elim (λ y. sym x.1 ∙ y.1) (λ y. absurd (let l = s.are.there c e y in let z = x.0 in omega (arith, l, z))) k)
          (λ x. ⊎_elim (λ y. absurd (let l = s.are.there c d x in let z = y.0 in omega (arith, l, z))) (λ y. s.are.one_way c d e x y) k) h;
      other_way = λ b c d h k. ⊎_elim
          (λ x. ⊎_elim (λ y. sym x.0 ∙ y.0) (λ y. absurd (let l = s.are.there_too c d y in let z = x.1 in omega (arith, l, z))) k)
          (λ x. ⊎_elim (λ y. absurd (let l = s.are.there_too b d x in let z = y.1 in omega (arith, l, z))) (λ y. s.are.other_way b c d x y) k) h;
      there = λ c d h. ⊎_elim (λ x. let z = x.0 in let n = size in omega (arith, z, n)) (λ x. let l = s.are.there c d x in let n = size in omega (arith, l, n)) h;
      there_too = λ c d h. ⊎_elim (λ x. let z = x.1 in let n = size_too in omega (arith, z, n)) (λ x. let l = s.are.there_too c d x in let n = size_too in omega (arith, l, n)) h;
      own_there = λ c m. absurd m;
    };
    count = (let a = length-append S.owners ((0, 0) ∷ []) in let n = s.count in let m = size in omega (arith, a, n, m));
    lowest = inr s.lowest;
  }

  grown_passes : Passes S grown IsAny
  grown_passes = record {
    store = grown_store;
    more = λ c d h. inr h;
    owners = λ c o e. get_before S.owners (0, 0) c o e;
    still = λ c o e is u. let l = slice_get_within S.owners c o e in let n = s.count in (
      λ y h. ⊎_elim (λ k. let z = k.0 in omega (arith, l, n, z)) (λ k. u y k) h,
      nth_old S.cells (v ∷ []) c (omega (arith, l, n)),
    );
  }

  grown_even : AreEven (cells_for grown [])
  grown_even c d h = ⊎_elim
      (λ x. subst (λ z. nth grown.cells z ≡ nth grown.cells_too d) x.0 (subst (λ z. nth grown.cells (length S.cells) ≡ nth grown.cells_too z) x.1 (last_nth S.cells v ∙ sym (last_nth S.cells_too v))))
      (λ x. nth_old S.cells (v ∷ []) c (s.are.there c d x) ∙ even c d x ∙ sym (nth_old S.cells_too (v ∷ []) d (s.are.there_too c d x))) h

made_both : (J : Joint) (environment : Value) (name : List ℕ) (body : Body) → Quiet J → Both (gives_loaded (one J) name body environment) (gives_loaded (two J) name body environment)
made_both J environment name body q =
    let S = J.store in
    let s = q.base.store in
    let T = grown S environment s q.even in
    let passes = grown_passes S environment s q.even in
    let fs = J.functions in
    let made : Made = record { made_of = body; source = name; has_lines = true; cells = length S.cells ∷ []; cells_too = length S.cells_too ∷ [] } in
    let K : Joint = record J { functions = fs ++ made ∷ []; store = T; now = gives_back (object a_function (length (map function_one fs)) ∷ []) } in
    let base = base_pass_any S T fs J.coroutines J.chain passes q.base in
    record {
      there = K;
      same = ap (λ z. record (one K) { functions = z }) (more_map function_one fs made);
      same_too =
          ap (λ z. record (two K) { functions = z; now = gives_back (object a_function (length (map function_two fs)) ∷ []) }) (more_map function_two fs made)
          ∙ ap (λ n. record (two K) { now = gives_back (object a_function n ∷ []) }) (length-map fs function_two ∙ sym (length-map fs function_one));
      stands = quiet K (record {
        base = record {
          store = base.store;
          paired = λ n f e. ⊎_elim
              (λ is. subst (λ z. ArePaired T.pairs z.cells z.cells_too) (sym is) (inl (refl, refl), tt))
              (λ old. base.paired n f old)
              (get_more fs made n f e);
          others = base.others;
          running_one = base.running_one;
        };
        even = grown_even S environment s q.even;
        layers = layers_pass S T IsAny (head J.chain) J.frames passes (λ n l. tt) q.layers;
      });
    }

pub loads_both : (J : Joint) (environment : Value) (l : Loaded Body) → Quiet J → Both (after_loading (one J) environment l) (after_loading (two J) environment l)
loads_both J environment (wrong error) q = raises_both J error q
loads_both J environment (not_loaded why) q = now_both J _ q
loads_both J environment (loaded name body) q = made_both J environment name body q
