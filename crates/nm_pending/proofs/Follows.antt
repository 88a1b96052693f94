-- Follow-ups of a pending commit, one after another.
use Rattle.std.proofs.Common.{◌≡◌, ℕ, ◌==◌, List, [], ◌∷◌, ◌++◌, Bool, true, false, ◌||◌, Option, Some, None, if◌then◌else◌, refl, sym, ap, ◌∙◌}
use Rattle.std.specs.List.{list_any}
use Rattle.std.proofs.lemmas.Bool.Decides.{Decides-eqb}
use Rattle.nm_pending.specs.Pending.{PendingState, followed, is_author, token_after}
use Rattle.nm_pending.specs.Follow.{FollowUp, either, last_token, followed_all, AddsUp}

or_right : (a : Bool) → (a || false) ≡ a
or_right true = refl
or_right false = refl

or_group : (a b c : Bool) → ((a || b) || c) ≡ (a || (b || c))
or_group true b c = refl
or_group false b c = refl

any_push : (test : ℕ → Bool) (xs : List ℕ) (x : ℕ) → list_any test (xs ++ x ∷ []) ≡ (list_any test xs || test x)
any_push test [] x = or_right (test x)
any_push test (y ∷ xs) x = ap (λ (b : Bool). test y || b) (any_push test xs x) ∙ sym (or_group (test y) (list_any test xs) (test x))

either_none : (token : Option (List ℕ)) → either token None ≡ token
either_none (Some token) = refl
either_none None = refl

either_after : (last given token : Option (List ℕ)) → either last (token_after token given) ≡ either (either last given) token
either_after (Some last) given token = refl
either_after None (Some given) token = refl
either_after None None token = refl

module _ {Before : Type 0} where
  authors_more : (pending : PendingState Before) (session asked : ℕ) (there : Bool) → is_author pending session ≡ there
      → list_any (λ author. author == asked) (if there then pending.authors else pending.authors ++ session ∷ []) ≡ (is_author pending asked || (session == asked))
  authors_more pending session asked true e = known (session == asked) refl
    where
      known : (same : Bool) → (session == asked) ≡ same → is_author pending asked ≡ (is_author pending asked || same)
      known false h = sym (or_right (is_author pending asked))
      known true h = let now : is_author pending asked ≡ true = ap (is_author pending) (sym ((Decides-eqb session asked).0 h)) ∙ e in ap (λ (b : Bool). b) now ∙ sym (ap (λ (b : Bool). b || true) now)
  authors_more pending session asked false e = any_push (λ author. author == asked) pending.authors session

  author_after : (pending : PendingState Before) (up : FollowUp) (asked : ℕ)
      → is_author (followed pending up.session up.persist up.deadline) asked ≡ (is_author pending asked || (up.session == asked))
  author_after pending up asked = authors_more pending up.session asked (is_author pending up.session) refl

  pub adds_up : (pending : PendingState Before) (ups : List FollowUp) → AddsUp pending ups (followed_all pending ups)
  adds_up pending [] = record {
    before = refl;
    issuer = refl;
    authors = λ session. sym (or_right (is_author pending session));
    token = refl;
    deadline = refl;
  }
  adds_up pending (up ∷ ups) =
      let more = adds_up (followed pending up.session up.persist up.deadline) ups in
      record {
        before = more.before;
        issuer = more.issuer;
        authors = λ session. more.authors session ∙ ap (λ (b : Bool). b || list_any (λ (one : FollowUp). one.session == session) ups) (author_after pending up session)
            ∙ or_group (is_author pending session) (up.session == session) (list_any (λ (one : FollowUp). one.session == session) ups);
        token = more.token ∙ either_after (last_token ups) up.persist pending.token;
        deadline = more.deadline;
      }

  -- who is an author after a follow-up
  pub author_followed : (pending : PendingState Before) (session : ℕ) (persist : Option (List ℕ)) (deadline asked : ℕ)
      → is_author (followed pending session persist deadline) asked ≡ (is_author pending asked || (session == asked))
  author_followed pending session persist deadline asked = authors_more pending session asked (is_author pending session) refl
