-- What an answer says of a path text.
use Rattle.std.proofs.Common.{◌≡◌, ℕ, List, Option, Some, None, Result, Ok, Err, refl, ap, subst, inl, inr}
use Rattle.std.specs.Prelude.{IfOk, IsErrOf}
use Rattle.std.proofs.lemmas.Bool.{cases_Bool}
use Rattle.nm_types.specs.Path.{PathStep}
use Rattle.nm_schema_tree.specs.Nodes.{SchemaTree}
use Rattle.nm_path.specs.declared.fault.PathFault.{PathFault}
use Rattle.nm_path.specs.declared.fault.PathFault.TheVariants.{Unknown, BadText, NoMemory}
use Rattle.nm_path.specs.declared.place.Place.TheVariants.{Top}
use Rattle.nm_path.specs.Form.{WrittenStep}
use Rattle.nm_path.specs.Spelling.{SpellsPath, IsUnknown, IsFullPath, are_named}
use Rattle.nm_path.specs.Reading.{steps_of, path_from, path_or_bad, path_by, path_of, Answers}
use Rattle.nm_path.proofs.Takes.{form-takes}
use Rattle.nm_path.proofs.Again.{form-again}
use Rattle.nm_path.proofs.Paths.{path-takes, path-again, spelled-named, steps-full, has-steps}

or_bad-ok : (o : Option (List PathStep)) (path : List PathStep) → path_or_bad o ≡ Ok path → o ≡ Some path
or_bad-ok None path e = absurd cc
or_bad-ok (Some p) path e = let f : p ≡ path = cc in ap Some f

or_bad-only : (o : Option (List PathStep)) (fault : PathFault) → path_or_bad o ≡ Err fault → fault ≡ BadText
or_bad-only None fault e = cc
or_bad-only (Some p) fault e = absurd cc

module _ (tree : SchemaTree) (text : List ℕ) where
  by-ok : (o : Option (List WrittenStep)) (path : List PathStep) → steps_of text ≡ o → path_by tree.nodes o ≡ Ok path → SpellsPath tree text path
  unfolding path_by
  by-ok None path s e = absurd cc
  by-ok (Some steps) path s e = elim (cases_Bool (are_named tree.nodes Top steps)) [
    | inl y ↦
        let f : path_or_bad (path_from tree.nodes Top steps) ≡ Ok path = rw y at e in
        record { steps = steps; form = form-takes text steps s; spelled = path-takes tree.nodes Top steps path (or_bad-ok (path_from tree.nodes Top steps) path f) }
    | inr n ↦ (let f = rw n at e in absurd cc)
  ]

  spells : (path : List PathStep) → path_of tree text ≡ Ok path → SpellsPath tree text path
  unfolding path_of
  spells path e = by-ok (steps_of text) path refl e

  pub spelled-read : (path : List PathStep) → SpellsPath tree text path → path_of tree text ≡ Ok path
  unfolding path_of path_by
  spelled-read path h = rw (form-again text h.steps h.form, spelled-named tree.nodes Top h.steps path h.spelled, path-again tree.nodes Top h.steps path h.spelled) refl

  by-unknown : (o : Option (List WrittenStep)) → steps_of text ≡ o → path_by tree.nodes o ≡ Err Unknown → IsUnknown tree text
  unfolding path_by
  by-unknown None s e = absurd cc
  by-unknown (Some steps) s e = elim (cases_Bool (are_named tree.nodes Top steps)) [
    | inl y ↦ (let f : path_or_bad (path_from tree.nodes Top steps) ≡ Err Unknown = rw y at e in let g = or_bad-only (path_from tree.nodes Top steps) Unknown f in absurd cc)
    | inr n ↦ record { steps = steps; form = form-takes text steps s; lost = n }
  ]

  unknown : path_of tree text ≡ Err Unknown → IsUnknown tree text
  unfolding path_of
  unknown e = by-unknown (steps_of text) refl e

  unknown-read : IsUnknown tree text → path_of tree text ≡ Err Unknown
  unfolding path_of path_by
  unknown-read h = rw (form-again text h.steps h.form, h.lost) refl

  by-memory : (o : Option (List WrittenStep)) → path_by tree.nodes o ≡ Err NoMemory → ⊥
  unfolding path_by
  by-memory None e = cc
  by-memory (Some steps) e = elim (cases_Bool (are_named tree.nodes Top steps)) [
    | inl y ↦ (let f : path_or_bad (path_from tree.nodes Top steps) ≡ Err NoMemory = rw y at e in let g = or_bad-only (path_from tree.nodes Top steps) NoMemory f in cc)
    | inr n ↦ (let f = rw n at e in cc)
  ]

  no-memory : path_of tree text ≡ Err NoMemory → ⊥
  unfolding path_of
  no-memory e = by-memory (steps_of text) e

  pub found_law : (r : Result (List PathStep) PathFault) → Answers r (path_of tree text) → IfOk r (SpellsPath tree text)
  found_law (Ok path) g = spells path g
  found_law (Err e) g = tt

  pub full_law : (r : Result (List PathStep) PathFault) → Answers r (path_of tree text) → IfOk r (IsFullPath tree)
  full_law (Ok path) g =
      let s = spells path g in
      record { some = has-steps tree.nodes Top s.steps path s.form.top s.spelled; steps = steps-full tree.nodes Top s.steps path s.spelled }
  full_law (Err e) g = tt

  pub read_law : (r : Result (List PathStep) PathFault) → Answers r (path_of tree text) → (path : List PathStep) → SpellsPath tree text path → Answers r (Ok path)
  read_law r g path s = subst (Answers r) (spelled-read path s) g

  pub not_known_law : (r : Result (List PathStep) PathFault) → Answers r (path_of tree text) → IsUnknown tree text → Answers r (Err Unknown)
  not_known_law r g u = subst (Answers r) (unknown-read u) g

  pub unknown_law : (r : Result (List PathStep) PathFault) → Answers r (path_of tree text) → IsErrOf r Unknown → IsUnknown tree text
  unknown_law (Ok path) g h = absurd cc
  unknown_law (Err Unknown) g h = unknown g
  unknown_law (Err BadText) g h = absurd cc
  unknown_law (Err NoMemory) g h = absurd cc

  pub bad_text_law : (r : Result (List PathStep) PathFault) → Answers r (path_of tree text) → IsErrOf r BadText → ((path : List PathStep) → SpellsPath tree text path → ⊥) × (IsUnknown tree text → ⊥)
  bad_text_law (Ok path) g h = absurd cc
  bad_text_law (Err Unknown) g h = absurd cc
  bad_text_law (Err BadText) g h = (λ path s. let p = spelled-read path s in cc, λ u. let p = unknown-read u in cc)
  bad_text_law (Err NoMemory) g h = absurd cc

  neither : (a : Result (List PathStep) PathFault) → path_of tree text ≡ a → ((path : List PathStep) → SpellsPath tree text path → ⊥) → (IsUnknown tree text → ⊥) → path_of tree text ≡ Err BadText
  neither (Ok path) e h u = absurd (h path (spells path e))
  neither (Err Unknown) e h u = absurd (u (unknown e))
  neither (Err BadText) e h u = e
  neither (Err NoMemory) e h u = absurd (no-memory e)

  pub neither_law : (r : Result (List PathStep) PathFault) → Answers r (path_of tree text) → ((path : List PathStep) → SpellsPath tree text path → ⊥) → (IsUnknown tree text → ⊥) → Answers r (Err BadText)
  neither_law r g h u = subst (Answers r) (neither (path_of tree text) refl h u) g

-- a text spells one path of a schema at most
pub spells-one : (tree : SchemaTree) (text : List ℕ) (one other : List PathStep) → SpellsPath tree text one → SpellsPath tree text other → one ≡ other
spells-one tree text one other h k =
    let p = spelled-read tree text one h in
    let q = spelled-read tree text other k in
    cc
