-- How far a pass over rows and keys has come.
use Rattle.std.proofs.Common.{◌≡◌, ℕ, List, [], ◌∷◌, ◌++◌, true, Option, Some, None, refl, sym, ap, ◌∙◌, append_assoc, append-nil}
use Rattle.json.specs.Token.{Token, end_object}
use Rattle.json.specs.Tree.{members_tokens}
use Rattle.serde_json.specs.Data.{Members, no_members, member}
use Rattle.serde_json.specs.Written.{members_outline}
use Rattle.nm_schema_tree.specs.Nodes.{SchemaTree}
use Rattle.nm_path.specs.declared.place.Place.{Place}
use Rattle.nm_json_text.specs.Passing.{Rest, members_of, group_data, tokens_of, front, join, is_later, Below, Above}
use Rattle.nm_json_text.proofs.Behind.{join_assoc, below_join, below_later, front_join, with_end}
use Rattle.nm_json_text.proofs.Groups.{AllNamed, group_between}

-- members are written up to a name, and keys and rows are left
pub record Passed (t : SchemaTree) (place : Place) (all : Members) (start now : List Token) (last : Option (List ℕ)) (held_left : Members) (left : List Rest) : Type 0 where
  done : Members
  text : now ≡ start ++ front done
  whole : all ≡ members_of t place (join done held_left) left
  earlier : (name : List ℕ) → is_later last name ≡ true → Below name done

regroup : (s f k : List Token) (n : Token) (ts : List Token) → (((s ++ f) ++ k) ++ n ∷ []) ++ ts ≡ s ++ ((f ++ k) ++ n ∷ (ts ++ []))
regroup s f k n ts =
    append_assoc ((s ++ f) ++ k) (n ∷ []) ts ∙ append_assoc (s ++ f) k (n ∷ ts) ∙ append_assoc s f (k ++ n ∷ ts) ∙ ap (λ us. s ++ us) (sym (append_assoc f k (n ∷ ts)))
    ∙ ap (λ us. s ++ ((f ++ k) ++ n ∷ us)) (sym (append-nil ts))

module _ (t : SchemaTree) (place : Place) where
  pub passed_start : (ms : Members) (rs : List Rest) (start : List Token) → Passed t place (members_of t place ms rs) start start None ms rs
  passed_start ms rs start = record { done = no_members; text = sym (append-nil start); whole = refl; earlier = λ name h. tt }

  -- keys before a name are written, then the member of a group of rows
  pub passed_on : (all : Members) (start now : List Token) (last : Option (List ℕ)) (ms : Members) (left : List Rest) → Passed t place all start now last ms left
      → (name : List ℕ) → is_later last name ≡ true
      → (keys_now : List Token) (keys_written ms_left : Members) → keys_now ≡ now ++ front keys_written → ms ≡ join keys_written ms_left → Below name keys_written → Above name ms_left
      → (r : Rest) (rs us : List Rest) → left ≡ (r ∷ rs) ++ us → AllNamed place name (r ∷ rs)
      → (named_now group_now : List Token) → named_now ≡ keys_now ++ Token.key name ∷ [] → group_now ≡ named_now ++ tokens_of (group_data t place (r ∷ rs))
      → Passed t place all start group_now (Some name) ms_left us
  passed_on all start now last ms left p name late keys_now kw ms_left kt parts b a r rs us split named named_now group_now nt gt =
      let d = group_data t place (r ∷ rs) in
      let mid = join p.done kw in
      let before : Below name mid = below_join name p.done kw (p.earlier name late) b in
      let one = member name d no_members in
      record {
        done = join mid one;
        text =
            gt ∙ ap (λ ts. ts ++ tokens_of d) (nt ∙ ap (λ ts. ts ++ Token.key name ∷ []) (kt ∙ ap (λ ts. ts ++ front kw) p.text))
            ∙ regroup start (front p.done) (front kw) (Token.key name) (tokens_of d)
            ∙ ap (λ ts. start ++ ts) (ap (λ ts. ts ++ Token.key name ∷ (tokens_of d ++ [])) (sym (front_join p.done kw)) ∙ sym (front_join mid one));
        whole =
            p.whole ∙ ap (λ rs. members_of t place (join p.done ms) rs) split ∙ ap (λ ns. members_of t place (join p.done ns) ((r ∷ rs) ++ us)) parts
            ∙ ap (λ ns. members_of t place ns ((r ∷ rs) ++ us)) (sym (join_assoc p.done kw ms_left))
            ∙ group_between t place name r rs us mid ms_left named before a
            ∙ ap (λ ns. members_of t place ns us) (sym (join_assoc mid one ms_left));
        earlier = λ other h. below_join other mid one (below_later name other mid h before) (h, tt);
      }

  -- the keys that are left are written, and the end
  pub passed_end : (all : Members) (start now : List Token) (last : Option (List ℕ)) (ms : Members) (left : List Rest) → Passed t place all start now last ms left → left ≡ [] → (keys_now : List Token) → keys_now ≡ now ++ front ms
      → keys_now ++ end_object ∷ [] ≡ start ++ members_tokens (members_outline all)
  passed_end all start now last ms left p none keys_now kt =
      ap (λ ts. ts ++ end_object ∷ []) (kt ∙ ap (λ ts. ts ++ front ms) p.text ∙ append_assoc start (front p.done) (front ms) ∙ ap (λ ts. start ++ ts) (sym (front_join p.done ms)))
      ∙ append_assoc start (front (join p.done ms)) (end_object ∷ []) ∙ ap (λ ts. start ++ ts) (sym (with_end (join p.done ms)))
      ∙ ap (λ ns. start ++ members_tokens (members_outline ns)) (sym (p.whole ∙ ap (members_of t place (join p.done ms)) none))
