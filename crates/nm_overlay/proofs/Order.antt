-- The order of paths, and what is at or below a node in it.
use Rattle.std.proofs.Common.{◌≡◌, true, false, List, [], refl, sym, ap, subst, ◌∙◌, append-nil, inl}
use Rattle.std.specs.Ordering.{is_lt, is_le, is_gt, is_eq, eq_by_cmp, ordering_reverse}
use Rattle.std.specs.declared.cmp.Ordering.{Ordering}
use Rattle.std.specs.declared.cmp.Ordering.TheVariants.{Less, Equal, Greater}
use Rattle.std.proofs.lemmas.Cmp.{tied_itself}
use Rattle.nm_types.specs.Path.{PathStep, path_cmp}
use Rattle.nm_types.specs.PathLaws.{paths_total, path_cmp-IsAntisymmetric}
use Rattle.nm_config.specs.Under.{is_under}
use Rattle.nm_config.proofs.Contiguous.{under-later, under-between}
use Rattle.nm_config.proofs.Meaning.{under-means}

abbrev pub Place : Type 0
Place = List PathStep

pub lt_less : (o : Ordering) → is_lt o ≡ true → o ≡ Less
lt_less Less h = refl
lt_less Equal h = cc
lt_less Greater h = cc

pub equal : (o : Ordering) → is_eq o ≡ true → o ≡ Equal
equal Less h = cc
equal Equal h = refl
equal Greater h = cc

turned : (o p : Ordering) → p ≡ ordering_reverse o → is_lt o ≡ false → is_gt p ≡ false
turned Less p e h = cc
turned Equal p e h = ap is_gt e
turned Greater p e h = ap is_gt e

turned_back : (o p : Ordering) → p ≡ ordering_reverse o → is_gt p ≡ false → is_lt o ≡ false
turned_back Less p e h = sym (ap is_gt e) ∙ h
turned_back Equal p e h = refl
turned_back Greater p e h = refl

-- what isn't before stands at or after
pub not_before : (x y : Place) → is_lt (path_cmp y x) ≡ false → is_gt (path_cmp x y) ≡ false
not_before x y h = turned (path_cmp y x) (path_cmp x y) (paths_total.antisymm x y) h

pub at_least : (x y : Place) → is_gt (path_cmp x y) ≡ false → is_lt (path_cmp y x) ≡ false
at_least x y h = turned_back (path_cmp y x) (path_cmp x y) (paths_total.antisymm x y) h

-- the two tests of one order
pub up_to_turned : (x y : Place) → is_le (path_cmp y x) ≡ true → is_lt (path_cmp x y) ≡ false
up_to_turned x y h = at_least y x (by (path_cmp y x) h)
  where
    by : (o : Ordering) → is_le o ≡ true → is_gt o ≡ false
    by Less h = refl
    by Equal h = refl
    by Greater h = cc

pub past_turned : (x y : Place) → is_le (path_cmp y x) ≡ false → is_lt (path_cmp x y) ≡ true
past_turned x y h = ap is_lt (paths_total.antisymm x y) ∙ by (path_cmp y x) h
  where
    by : (o : Ordering) → is_le o ≡ false → is_lt (ordering_reverse o) ≡ true
    by Less h = cc
    by Equal h = cc
    by Greater h = refl

pub one : (x y : Place) → eq_by_cmp path_cmp x y ≡ true → x ≡ y
one x y h = path_cmp-IsAntisymmetric x y (equal (path_cmp x y) h)

pub itself : (x : Place) → eq_by_cmp path_cmp x x ≡ true
itself x = ap is_eq (tied_itself paths_total x)

pub less_up_to : (x y z : Place) → path_cmp x y ≡ Less → is_gt (path_cmp y z) ≡ false → path_cmp x z ≡ Less
less_up_to x y z a b = by (path_cmp y z) refl b
  where
    by : (o : Ordering) → path_cmp y z ≡ o → is_gt o ≡ false → path_cmp x z ≡ Less
    by Less e h = paths_total.trans x y z a e
    by Equal e h = subst (λ (w : Place). path_cmp x w ≡ Less) (path_cmp-IsAntisymmetric y z e) a
    by Greater e h = cc

pub up_to_less : (x y z : Place) → is_gt (path_cmp x y) ≡ false → path_cmp y z ≡ Less → path_cmp x z ≡ Less
up_to_less x y z a b = by (path_cmp x y) refl a
  where
    by : (o : Ordering) → path_cmp x y ≡ o → is_gt o ≡ false → path_cmp x z ≡ Less
    by Less e h = paths_total.trans x y z e b
    by Equal e h = paths_total.congr x y z e ∙ b
    by Greater e h = cc

-- of two paths one stands first, or they are one
pub greater_less : (x y : Place) → path_cmp x y ≡ Greater → path_cmp y x ≡ Less
greater_less x y h = paths_total.antisymm y x ∙ ap ordering_reverse h

pub less_greater : (x y : Place) → path_cmp x y ≡ Less → path_cmp y x ≡ Greater
less_greater x y h = paths_total.antisymm y x ∙ ap ordering_reverse h

pub under_not_before : (node path : Place) → is_under node path ≡ true → is_lt (path_cmp path node) ≡ false
under_not_before node path h = at_least node path (under-later node path h)

-- what is past a node, and not below it, stands after all that is below it
pub past_under : (node below past : Place) → is_under node below ≡ true → is_lt (path_cmp past node) ≡ false → is_under node past ≡ false
    → path_cmp below past ≡ Less
past_under node below past u a n = by (path_cmp below past) refl
  where
    by : (o : Ordering) → path_cmp below past ≡ o → o ≡ Less
    by Less e = refl
    by Equal e = absurd (let p = path_cmp-IsAntisymmetric below past e in let f : is_under node past ≡ true = sym (ap (is_under node) p)
        ∙ u in let g : true ≡ false = sym f ∙ n in cc)
    by Greater e = absurd (let f = under-between node past below u (not_before node past a) (ap is_gt (greater_less below past e)) in let g : true ≡ false = sym f
        ∙ n in cc)

-- a node is at or below itself
pub under_itself : (node : Place) → is_under node node ≡ true
under_itself node = (under-means node node).1 (inl (record { rest = []; begins = sym (append-nil node) }))
