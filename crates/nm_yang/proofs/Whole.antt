-- A module that is written is read again.
use Rattle.std.proofs.Common.{◌≡◌, ℕ, ◌≤◌, Bool, true, false, eqb, ltb, List, [], ◌++◌, length, take, Option, None, Ok, refl, sym, ap, subst, ◌∙◌, arith}
use Rattle.std.specs.Prelude.{IsUtf8, codes}
use Rattle.std.specs.Str.Lossy.{utf8_valid_len}
use Rattle.std.proofs.lemmas.List.{append-nil, take_all}
use Rattle.std.proofs.lemmas.Bool.{ltb-true, ltb-false}
use Rattle.std.proofs.lemmas.Bool.Decides.{nat_tests}
use Rattle.std.proofs.lemmas.Str.{utf8_valid_len-IsUtf8}
use Rattle.nm_yang.specs.Tree.{Tree, Trees, statement, trees_of}
use Rattle.nm_yang.specs.Page.{Page, place_of}
use Rattle.nm_yang.specs.Blank.{skip, plain}
use Rattle.nm_yang.specs.Module.{Found, Heading, any_says_1_1, begin_at, heading_at, body_at, closed_at, finish_at, done_at, module_at, not_module, front_len, stop_of, page_of, reading, reading_within, most_deep, most_long, label_at}
use Rattle.nm_yang.specs.Written.{written, written_argument, written_end, CanHave, IsModule, ReadsAs, SameWords}
use Rattle.nm_yang.proofs.Stated.{opened, skip-written, written-parts, label-again, after-again, within-again, each-again}
use Rattle.nm_yang.proofs.Utf8.{written-utf8}

abbrev pub whole : List ℕ → Bool → Page
whole text strict = record { text = text; stop = None; strict = strict }

-- what is read of a module
record ReadsModule (found : Found) (t : Tree) : Type 0 where
  pub tree : Tree
  pub is : found.1 ≡ Ok tree
  pub same : SameWords tree t

heading-again : (page : Page) (argument : Option (List ℕ)) (place : ℕ) (ts : Trees) (start : List ℕ) → start ≡ codes "module" ++ (written_argument argument ++ (written_end ts ++ [])) → CanHave most_deep (statement (codes "module") argument place ts)
    → heading_at page start ≡ Ok (record { keyword = codes "module"; argument = argument; place = place_of page start; rest = opened ts [] })
unfolding heading_at
heading-again page argument place ts start is h =
    let l : label_at page (not_module page) start ≡ Ok (codes "module", written_argument argument ++ (written_end ts ++ [])) = ap (label_at page (not_module page)) is ∙ label-again page (not_module page) (codes "module") argument ts [] h.0 h.1 in
    rw (l, after-again page (not_module page) argument ts [] h.2) refl

finish-again : (text : List ℕ) (strict : Bool) → finish_at (whole text strict) [] ≡ Ok []
unfolding finish_at skip done_at
finish-again text strict = refl

module-by : (text : List ℕ) (strict : Bool) (h : Heading) (found : List Tree) → begin_at (whole text strict) ≡ Ok h → body_at (whole text strict) h ≡ (found, Ok []) → (module_at (whole text strict)).1 ≡ Ok (statement h.keyword h.argument h.place (trees_of found))
unfolding module_at closed_at
module-by text strict h found b e = rw (b, e, finish-again text strict) refl

module-again : (text : List ℕ) (strict : Bool) (k : List ℕ) (argument : Option (List ℕ)) (place : ℕ) (ts : Trees) → k ≡ codes "module" → text ≡ written (statement k argument place ts) → CanHave most_deep (statement k argument place ts)
    → ReadsModule (module_at (whole text strict)) (statement k argument place ts)
unfolding begin_at body_at
module-again text strict k argument place ts name is h =
    let page : Page = whole text strict in
    let s : skip page plain text ≡ Ok text = (let w = skip-written page most_deep (statement k argument place ts) [] h in subst (λ (l : List ℕ). skip page plain l ≡ Ok l) (append-nil (written (statement k argument place ts)) ∙ sym is) w.0) in
    let parts : text ≡ codes "module" ++ (written_argument argument ++ (written_end ts ++ [])) =
    is ∙ sym (append-nil (written (statement k argument place ts))) ∙ written-parts k argument place ts [] ∙ ap (λ (l : List ℕ). l ++ (written_argument argument ++ (written_end ts ++ []))) name in
    let g : CanHave most_deep (statement (codes "module") argument place ts) = subst (λ (l : List ℕ). CanHave most_deep (statement l argument place ts)) name h in
    let head : Heading = record { keyword = codes "module"; argument = argument; place = place_of page text; rest = opened ts [] } in
    let b : begin_at page ≡ Ok head = rw s (heading-again page argument place ts text parts g) in
    let w = within-again ts most_deep page (not_module page) [] h.3 (λ e fault n c le. each-again ts e page fault n [] c le) in
    record { tree = statement (codes "module") argument (place_of page text) (trees_of w.found); is = module-by text strict head w.found b w.is; same = (sym name, refl, w.same) }

front-whole : (limit : ℕ) (text : List ℕ) (p q : Bool) → utf8_valid_len text ≡ length text → length text ≤ limit → ltb (length text) limit ≡ p → ltb limit (length text) ≡ q → take (front_len limit text) text ≡ text
front-whole limit text true q valid le is at = rw (valid, is) (take_all (length text) text (omega arith))
front-whole limit text false true valid le is at = absurd (let h = ltb-true limit (length text) at in omega arith)
front-whole limit text false false valid le is at = rw (valid, is, at, take_all limit text le, valid) (take_all (length text) text (omega arith))

stop-whole : (limit : ℕ) (text : List ℕ) (p : Bool) → utf8_valid_len text ≡ length text → length text ≤ limit → ltb (length text) limit ≡ p → stop_of limit text ≡ None
stop-whole limit text true valid le is =
    let e : eqb (length text) (length text) ≡ true = grind (arith, nat_tests) in
    rw (valid, is, e) refl
stop-whole limit text false valid le is =
    let h = ltb-false (length text) limit is in
    let e : eqb limit (length text) ≡ true = grind (arith, nat_tests) in
    rw (valid, is, e) refl

pub page-whole : (limit : ℕ) (text : List ℕ) (strict : Bool) → IsUtf8 text → length text ≤ limit → page_of limit strict text ≡ whole text strict
page-whole limit text strict h le =
    let v = utf8_valid_len-IsUtf8 text h in
    rw (front-whole limit text (ltb (length text) limit) (ltb limit (length text)) v le refl refl, stop-whole limit text (ltb (length text) limit) v le refl) refl

within-by : (limit : ℕ) (text : List ℕ) (t : Tree) (version : Bool) → any_says_1_1 (module_at (page_of limit false text)).0 ≡ version → ReadsModule (module_at (page_of limit true text)) t → ReadsModule (module_at (page_of limit false text)) t
    → (u : Tree) × (reading_within limit text ≡ Ok u) × SameWords u t
within-by limit text t true v r s = (r.tree, rw v r.is, r.same)
within-by limit text t false v r s = (s.tree, rw v s.is, s.same)

within-limit : (limit : ℕ) (text : List ℕ) (t : Tree) → IsModule t → text ≡ written t → length text ≤ limit → (u : Tree) × (reading_within limit text ≡ Ok u) × SameWords u t
within-limit limit text (statement k argument place ts) h is le =
    let t : Tree = statement k argument place ts in
    let utf8 : IsUtf8 text = rw is (written-utf8 t most_deep h.1) in
    let r : (strict : Bool) → ReadsModule (module_at (page_of limit strict text)) t = λ strict. rw (page-whole limit text strict utf8 le) (module-again text strict k argument place ts h.0 is h.1) in
    within-by limit text t (any_says_1_1 (module_at (page_of limit false text)).0) refl (r true) (r false)

-- what is written of a module is read as the same keywords and arguments
pub read_again : (text : List ℕ) (t : Tree) → text ≡ written t → IsModule t → length text ≤ 262144 → ReadsAs text t
unfolding reading
read_again text t is h le =
    let r = within-limit most_long text t h is le in
    record { found = r.0; is = r.1; same = r.2 }
