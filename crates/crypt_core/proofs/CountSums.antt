-- Adds up the counts of a meter for `md5crypt`, `shacrypt` and the functions that feed them (src/md5crypt.rt,
-- src/shacrypt.rt, src/messages.rt). Their contracts give the counts after each call; these lemmas chain such equations
-- by arithmetic on the fields of the record. `with_digests-with_work` turns the sum over a list of messages into the
-- closed form that the clause `count` states.
use Rattle.std.proofs.Common.{◌≡◌, ℕ, ◌+◌, List, [], ◌∷◌, ◌++◌, length, arith, sym, ◌∙◌, ap, add-zero}
use Rattle.std.specs.Prelude.{sum_by}
use Rattle.std.proofs.lemmas.List.{length-append}
use Rattle.std.proofs.lemmas.List.Sums.{sum_by-append}
use Rattle.prims_core.specs.Meter.{with_work, HaveCountAndSum}
use Rattle.prims_core.specs.declared.meter.Work.{Work}
use Rattle.crypt_core.specs.Private.Messages.{with_digest}

-- with_digests counts messages: the counts after digesting these messages, if they were `counts` before.
abbrev pub with_digests : Work → List (List ℕ) → Work
with_digests counts messages = with_work counts (length messages) (sum_by length messages)

-- Feeding no bytes to a digest changes no count.
pub bytes-add_zero : (m : Work) → m ≡ record m { bytes = m.bytes + 0 }
bytes-add_zero m = ap (λ n. record m { bytes = n }) (sym (add-zero m.bytes))

-- Feeding x bytes and then y bytes counts z = x + y.
pub bytes-add_add : (a b c : Work) (x y z : ℕ) → b ≡ record a { bytes = a.bytes + x } → c ≡ record b { bytes = b.bytes + y } → x + y ≡ z
    → c ≡ record a { bytes = a.bytes + z }
bytes-add_add a b c x y z p q e =
    let total : a.bytes + x + y ≡ a.bytes + z = omega arith in
    q ∙ (ap (λ (m : Work). record m { bytes = m.bytes + y }) p ∙ ap (λ n. record a { bytes = n }) total)

-- Feeding the bytes of a message and then finishing its digest counts the message.
pub with_digest-from_counts : (a b c : Work) (message : List ℕ) (x : ℕ) → b ≡ record a { bytes = a.bytes + x } → c ≡ record b { digests = b.digests + 1 }
    → x ≡ length message → c ≡ with_digest a message
with_digest-from_counts a b c message x p q e =
    q ∙ (ap (λ (m : Work). record m { digests = m.digests + 1 }) p ∙ ap (λ n. record a { digests = a.digests + 1; bytes = a.bytes + n }) e)

-- Digesting some messages and then one more counts the longer list.
pub with_digests-push : (a b c : Work) (messages : List (List ℕ)) (message : List ℕ) → b ≡ with_digests a messages → c ≡ with_digest b message
    → c ≡ with_digests a (messages ++ message ∷ [])
with_digests-push a b c messages message p q =
    let digests : a.digests + length messages + 1 ≡ a.digests + length (messages ++ message ∷ []) =
    omega (arith, length-append messages (message ∷ [])) in
    let bytes : a.bytes + sum_by length messages + length message ≡ a.bytes + sum_by length (messages ++ message ∷ []) =
    omega (arith, sum_by-append length messages (message ∷ [])) in
    q ∙ (ap (λ (m : Work). with_digest m message) p
    ∙ (ap (λ n. record a { digests = n; bytes = a.bytes + sum_by length messages + length message }) digests
    ∙ ap (λ n. record a { digests = a.digests + length (messages ++ message ∷ []); bytes = n }) bytes))

with_digests-nil : (m : Work) → m ≡ with_digests m []
with_digests-nil m =
    ap (λ n. record m { digests = n }) (sym (add-zero m.digests))
    ∙ ap (λ n. record m { digests = m.digests + 0; bytes = n }) (sym (add-zero m.bytes))

-- Digesting two messages, one after the other, counts the list of both.
pub with_digests-two : (a b c : Work) (first second : List ℕ) → b ≡ with_digest a first → c ≡ with_digest b second
    → c ≡ with_digests a (first ∷ second ∷ [])
with_digests-two a b c first second p q =
    with_digests-push a b c (first ∷ []) second (with_digests-push a a b [] first (with_digests-nil a) p) q

-- Digesting four messages, one after another, counts the list of all four.
pub with_digests-four : (a b c d e : Work) (first second third fourth : List ℕ) → b ≡ with_digest a first → c ≡ with_digest b second
    → d ≡ with_digest c third → e ≡ with_digest d fourth → e ≡ with_digests a (first ∷ second ∷ third ∷ fourth ∷ [])
with_digests-four a b c d e first second third fourth p q r t =
    with_digests-push a d e (first ∷ second ∷ third ∷ []) fourth
    (with_digests-push a c d (first ∷ second ∷ []) third (with_digests-two a b c first second p q) r) t

-- If the messages have this count and this sum of bytes, digesting them adds exactly that.
pub with_digests-with_work : (m : Work) (messages : List (List ℕ)) (digests bytes : ℕ) → HaveCountAndSum messages digests bytes
    → with_digests m messages ≡ with_work m digests bytes
with_digests-with_work m messages digests bytes all =
    ap (λ n. with_work m n (sum_by length messages)) all.count ∙ ap (with_work m digests) all.sum
