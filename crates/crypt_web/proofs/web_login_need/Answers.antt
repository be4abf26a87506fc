-- The clause of `web_login_need` holds because the need is the one that `login_need` returns for the limit that the
-- budget stands for.
use Rattle.crypt_web.proofs.web_login_need.Goals as goal

pub returns : goal.returns
returns c = rw c.of.ensures at c.login_need.ensures
