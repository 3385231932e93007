-- What an accepted file holds.
use Rattle.rules.specs.File.{Account, account_of}
use Rattle.account.specs.declared.accepted.AcceptedFile.{AcceptedFile}

-- The account of an accepted file: its series and positions.
abbrev pub account_in : AcceptedFile → Account
account_in f = account_of f.bytes.now f.layout
