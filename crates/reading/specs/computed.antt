-- What contracts promise, worked out. Each of these is explained by a theorem of the claims, so none has to be believed.
pub mod Pool
